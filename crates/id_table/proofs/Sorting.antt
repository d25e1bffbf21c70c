-- Sorted lists: what a scan from the beginning finds, and that filtering and sorting can be done in either order.
use Rattle.std.proofs.Common.{◌≡◌, ℕ, suc, ◌+◌, ◌<◌, Bool, true, false, cond, List, [], ◌∷◌, ◌++◌, map, take, get_or, length, Option, None, Some, refl, sym, ap, ◌∙◌, arith}
use Rattle.std.specs.Cmp.{IsStrictWeakOrder}
use Rattle.std.specs.Bool.{⊤}
use Rattle.std.specs.List.{filter, AllByRecursion}
use Rattle.std.proofs.lemmas.List.{append-nil}
use Rattle.std.proofs.lemmas.List.Elements.{filter_more}
use Rattle.id_table.specs.Sorting.{insert_sorted, sorted, first, pick}

module _ {X : Type 0} (lt : X → X → Bool) where
  -- the better of the best so far and one that comes after it, or before it
  abbrev pub better_last : Option X → X → Option X
  better_last None x = Some x
  better_last (Some b) x = cond (lt x b) (Some x) (Some b)

  abbrev better_first : X → Option X → Option X
  better_first y None = Some y
  better_first y (Some b) = cond (lt b y) (Some b) (Some y)

  first-insert : (y : X) (zs : List X) → first (insert_sorted lt y zs) ≡ better_first y (first zs)
  first-insert y [] = refl
  first-insert y (z ∷ zs) = elim (lt z y) as (λ b. first (cond b (z ∷ insert_sorted lt y zs) (y ∷ z ∷ zs)) ≡ cond b (Some z) (Some y)) [ true ↦ refl | false ↦ refl ]

  swap_better : IsStrictWeakOrder lt → (y x : X) (o : Option X) → better_first y (better_last o x) ≡ better_last (better_first y o) x
  swap_better w y x None = elim (lt x y) as (λ b. cond b (Some x) (Some y) ≡ cond b (Some x) (Some y)) [ true ↦ refl | false ↦ refl ]
  swap_better w y x (Some b) = grind (arith, w.one_way, w.chain)

  pub first-sorted_push : IsStrictWeakOrder lt → (xs : List X) (x : X) → first (sorted lt (xs ++ x ∷ [])) ≡ better_last (first (sorted lt xs)) x
  first-sorted_push w [] x = refl
  first-sorted_push w (y ∷ ys) x =
      first-insert y (sorted lt (ys ++ x ∷ []))
      ∙ ap (better_first y) (first-sorted_push w ys x)
      ∙ swap_better w y x (first (sorted lt ys))
      ∙ ap (λ o. better_last o x) (sym (first-insert y (sorted lt ys)))

  picks : (p : X → Bool) (o : Option X) (x : X) → cond (p x) (better_last o x) o ≡ pick lt p o x
  picks p None x = refl
  picks p (Some b) x = grind arith

  -- a scan from the beginning, one element further
  pub first-sorted_more : IsStrictWeakOrder lt → (p : X → Bool) (xs : List X) (i : ℕ) (d : X) → i < length xs
      → first (sorted lt (filter p (take (i + 1) xs))) ≡ pick lt p (first (sorted lt (filter p (take i xs)))) (get_or xs i d)
  first-sorted_more w p xs i d h =
      rw (filter_more p xs i d h) (
      elim (p (get_or xs i d)) as (λ b. first (sorted lt (filter p (take i xs) ++ cond b (get_or xs i d ∷ []) [])) ≡ cond b (better_last (first (sorted lt (filter p (take i xs)))) (get_or xs i d)) (first (sorted lt (filter p (take i xs))))) [
        | true ↦ first-sorted_push w (filter p (take i xs)) (get_or xs i d)
        | false ↦ ap (λ ys. first (sorted lt ys)) (append-nil (filter p (take i xs)))
      ])
      ∙ picks p (first (sorted lt (filter p (take i xs)))) (get_or xs i d)

-- ---- sorted lists
-- no element is before an earlier one in the order
abbrev pub InOrder : {X : Type 0} → (X → X → Bool) → List X → Type 0
InOrder lt [] = ⊤
InOrder lt (x ∷ xs) = AllByRecursion (λ z. lt z x ≡ false) xs × InOrder lt xs

module _ {X : Type 0} (lt : X → X → Bool) where
  pub all_insert : (P : X → Type 0) (x : X) (ys : List X) → P x → AllByRecursion P ys → AllByRecursion P (insert_sorted lt x ys)
  all_insert P x [] p ps = (p, tt)
  all_insert P x (y ∷ ys) p ps = elim (lt y x) as (λ b. AllByRecursion P (cond b (y ∷ insert_sorted lt x ys) (x ∷ y ∷ ys))) [ true ↦ (ps.0, all_insert P x ys p ps.1) | false ↦ (p, ps) ]

  all_weaker : (P Q : X → Type 0) → ((x : X) → P x → Q x) → (ys : List X) → AllByRecursion P ys → AllByRecursion Q ys
  all_weaker P Q f [] ps = tt
  all_weaker P Q f (y ∷ ys) ps = (f y ps.0, all_weaker P Q f ys ps.1)

  in_order_insert : IsStrictWeakOrder lt → (x : X) (ys : List X) → InOrder lt ys → InOrder lt (insert_sorted lt x ys)
  in_order_insert w x [] o = (tt, tt)
  in_order_insert w x (y ∷ ys) o =
      elim (lt y x) as (λ b. lt y x ≡ b → InOrder lt (cond b (y ∷ insert_sorted lt x ys) (x ∷ y ∷ ys))) [
        | true ↦ λ e. (all_insert (λ z. lt z y ≡ false) x ys (w.one_way y x e) o.0, in_order_insert w x ys o.1)
        | false ↦ λ e. ((e, all_weaker (λ z. lt z y ≡ false) (λ z. lt z x ≡ false) (λ z q. w.chain z y x q e) ys o.0), o)
      ] refl

  pub in_order_sorted : IsStrictWeakOrder lt → (xs : List X) → InOrder lt (sorted lt xs)
  in_order_sorted w [] = tt
  in_order_sorted w (x ∷ xs) = in_order_insert w x (sorted lt xs) (in_order_sorted w xs)

  -- x goes to the beginning if no element is before it
  at_head : (x : X) (ys : List X) → AllByRecursion (λ z. lt z x ≡ false) ys → insert_sorted lt x ys ≡ x ∷ ys
  at_head x [] h = refl
  at_head x (y ∷ ys) h = rw h.0 refl

  all_filter : (P : X → Type 0) (q : X → Bool) (ys : List X) → AllByRecursion P ys → AllByRecursion P (filter q ys)
  all_filter P q [] ps = tt
  all_filter P q (y ∷ ys) ps = elim (q y) as (λ b. AllByRecursion P (cond b (y ∷ filter q ys) (filter q ys))) [ true ↦ (ps.0, all_filter P q ys ps.1) | false ↦ all_filter P q ys ps.1 ]

  -- y is before x; y stays or is filtered out
  later : (q : X → Bool) (x y : X) (ys : List X) → lt y x ≡ true → filter q (insert_sorted lt x ys) ≡ cond (q x) (insert_sorted lt x (filter q ys)) (filter q ys)
      → filter q (y ∷ insert_sorted lt x ys) ≡ cond (q x) (insert_sorted lt x (filter q (y ∷ ys))) (filter q (y ∷ ys))
  later q x y ys e ih = rw ih (
      elim (q y) as (λ b. cond b (y ∷ cond (q x) (insert_sorted lt x (filter q ys)) (filter q ys)) (cond (q x) (insert_sorted lt x (filter q ys)) (filter q ys)) ≡ cond (q x) (insert_sorted lt x (cond b (y ∷ filter q ys) (filter q ys))) (cond b (y ∷ filter q ys) (filter q ys))) [
        | true ↦ elim (q x) as (λ d. y ∷ cond d (insert_sorted lt x (filter q ys)) (filter q ys) ≡ cond d (insert_sorted lt x (y ∷ filter q ys)) (y ∷ filter q ys)) [ true ↦ rw e refl | false ↦ refl ]
        | false ↦ refl
      ])

  filter-insert : IsStrictWeakOrder lt → (q : X → Bool) (x : X) (ys : List X) → InOrder lt ys → filter q (insert_sorted lt x ys) ≡ cond (q x) (insert_sorted lt x (filter q ys)) (filter q ys)
  filter-insert w q x [] o = refl
  filter-insert w q x (y ∷ ys) o =
      elim (lt y x) as (λ b. lt y x ≡ b → filter q (cond b (y ∷ insert_sorted lt x ys) (x ∷ y ∷ ys)) ≡ cond (q x) (insert_sorted lt x (filter q (y ∷ ys))) (filter q (y ∷ ys))) [
        | true ↦ λ e. later q x y ys e (filter-insert w q x ys o.1)
        | false ↦ λ e. ap (λ zs. cond (q x) zs (filter q (y ∷ ys))) (sym (at_head x (filter q (y ∷ ys)) (all_filter (λ z. lt z x ≡ false) q (y ∷ ys) (e, all_weaker (λ z. lt z y ≡ false) (λ z. lt z x ≡ false) (λ z r. w.chain z y x r e) ys o.0))))
      ] refl

  -- filtering before a sort and after it gives the same
  pub filter-sorted : IsStrictWeakOrder lt → (q : X → Bool) (xs : List X) → filter q (sorted lt xs) ≡ sorted lt (filter q xs)
  filter-sorted w q [] = refl
  filter-sorted w q (x ∷ xs) =
      filter-insert w q x (sorted lt xs) (in_order_sorted w xs)
      ∙ ap (λ zs. cond (q x) (insert_sorted lt x zs) zs) (filter-sorted w q xs)
      ∙ elim (q x) as (λ b. cond b (insert_sorted lt x (sorted lt (filter q xs))) (sorted lt (filter q xs)) ≡ sorted lt (cond b (x ∷ filter q xs) (filter q xs))) [ true ↦ refl | false ↦ refl ]

  pub length-insert_sorted : (x : X) (ys : List X) → length (insert_sorted lt x ys) ≡ suc (length ys)
  length-insert_sorted x [] = refl
  length-insert_sorted x (y ∷ ys) = elim (lt y x) as (λ b. length (cond b (y ∷ insert_sorted lt x ys) (x ∷ y ∷ ys)) ≡ suc (suc (length ys))) [ true ↦ ap suc (length-insert_sorted x ys) | false ↦ refl ]

  pub length-sorted : (xs : List X) → length (sorted lt xs) ≡ length xs
  length-sorted [] = refl
  length-sorted (x ∷ xs) = length-insert_sorted x (sorted lt xs) ∙ ap suc (length-sorted xs)

  pub first_is : (xs : List X) (x : X) → first xs ≡ Some x → (rest : List X) × (xs ≡ x ∷ rest)
  first_is [] x e = absurd (cc)
  first_is (y ∷ ys) x e = (ys, cc)

  pub no_first : (xs : List X) → first xs ≡ None → xs ≡ []
  no_first [] e = refl
  no_first (y ∷ ys) e = absurd (cc)

-- ---- elements seen through a function
module _ {X Y : Type 0} (f : X → Y) (lt : Y → Y → Bool) where
  abbrev pub seen_by : X → X → Bool
  seen_by a b = lt (f a) (f b)

  seen_insert : (x : X) (ys : List X) → map f (insert_sorted seen_by x ys) ≡ insert_sorted lt (f x) (map f ys)
  seen_insert x [] = refl
  seen_insert x (y ∷ ys) =
      elim (lt (f y) (f x)) as (λ b. map f (cond b (y ∷ insert_sorted seen_by x ys) (x ∷ y ∷ ys)) ≡ cond b (f y ∷ insert_sorted lt (f x) (map f ys)) (f x ∷ f y ∷ map f ys)) [
        | true ↦ ap (λ vs. f y ∷ vs) (seen_insert x ys)
        | false ↦ refl
      ]

  -- sorting the elements sorts what is seen of them
  pub seen_sorted : (xs : List X) → map f (sorted seen_by xs) ≡ sorted lt (map f xs)
  seen_sorted [] = refl
  seen_sorted (x ∷ xs) = seen_insert x (sorted seen_by xs) ∙ ap (insert_sorted lt (f x)) (seen_sorted xs)
