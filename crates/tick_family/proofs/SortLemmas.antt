-- A stable sort has one result.
use Rattle.std.proofs.Common.{◌≡◌, ℕ, suc, ◌<◌, ◌≤◌, Bool, true, false, cond, List, [], ◌∷◌, length, get_or, refl, sym, ap, ◌∙◌, subst, arith}
use Rattle.std.specs.Cmp.{IsStrictWeakOrder}
use Rattle.std.specs.List.{AllByRecursion, filter}
use Rattle.std.specs.List.Sorted.{ties, IsSortedBy, IsStableBy}
use Rattle.std.proofs.lemmas.List.Sorted.{sorted_far}
use Rattle.std.proofs.lemmas.List.Elements.{recursion_from_All}
use Rattle.id_table.specs.Sorting.{sorted}
use Rattle.id_table.proofs.Sorting.{InOrder, in_order_sorted, filter-sorted}
use Rattle.id_table.proofs.Orders.{not_before_itself}
use Rattle.tick_file.proofs.Merging.{sorted_head}

module _ {X : Type 0} where
  all_filter : (P : X → Type 0) (q : X → Bool) (ys : List X) → AllByRecursion P ys → AllByRecursion P (filter q ys)
  all_filter P q [] ps = tt
  all_filter P q (y ∷ ys) ps = elim (q y) as (λ b. AllByRecursion P (cond b (y ∷ filter q ys) (filter q ys))) [ true ↦ (ps.0, all_filter P q ys ps.1) | false ↦ all_filter P q ys ps.1 ]

module _ {X : Type 0} (lt : X → X → Bool) (w : IsStrictWeakOrder lt) where
  ties_itself : (x : X) → ties lt x x ≡ true
  ties_itself x = rw (not_before_itself lt w x) refl

  abbrev SameTies : List X → List X → Type 0
  SameTies xs ys = (z : X) → filter (ties lt z) xs ≡ filter (ties lt z) ys

  first_kept : (x : X) (xs : List X) → filter (ties lt x) (x ∷ xs) ≡ x ∷ filter (ties lt x) xs
  first_kept x xs = rw (ties_itself x) refl

  -- the first of a list in order is not after an element that ties with the first of the other
  not_after : (x y : X) (xs ys : List X) → InOrder lt (y ∷ ys) → SameTies (x ∷ xs) (y ∷ ys) → lt x y ≡ false
  not_after x y xs ys o same =
      let kept : AllByRecursion (λ z. lt z y ≡ false) (filter (ties lt x) (y ∷ ys)) = all_filter (λ z. lt z y ≡ false) (ties lt x) (y ∷ ys) (not_before_itself lt w y, o.0) in
      let moved : AllByRecursion (λ z. lt z y ≡ false) (x ∷ filter (ties lt x) xs) = subst (AllByRecursion (λ z. lt z y ≡ false)) (sym (same x) ∙ first_kept x xs) kept in
      moved.0

  tied_true : (x y : X) → lt x y ≡ false → lt y x ≡ false → ties lt x y ≡ true
  tied_true x y p q = rw (p, q) refl

  cancel : (b : Bool) (x y : X) (xs ys : List X) → x ≡ y → cond b (x ∷ xs) xs ≡ cond b (y ∷ ys) ys → xs ≡ ys
  cancel true x y xs ys e h = cc
  cancel false x y xs ys e h = h

  pub one_stable : (xs ys : List X) → InOrder lt xs → InOrder lt ys → SameTies xs ys → xs ≡ ys
  one_stable [] [] p q same = refl
  one_stable [] (y ∷ ys) p q same = let e : [] ≡ y ∷ filter (ties lt y) ys = same y ∙ first_kept y ys in absurd (cc)
  one_stable (x ∷ xs) [] p q same = let e : x ∷ filter (ties lt x) xs ≡ [] = sym (first_kept x xs) ∙ same x in absurd (cc)
  one_stable (x ∷ xs) (y ∷ ys) p q same =
      let a : lt x y ≡ false = not_after x y xs ys q same in
      let b : lt y x ≡ false = not_after y x ys xs p (λ z. sym (same z)) in
      let t : ties lt x y ≡ true = tied_true x y a b in
      let heads : x ∷ filter (ties lt x) xs ≡ y ∷ filter (ties lt x) ys =
      sym (first_kept x xs) ∙ same x ∙ ap (λ c. cond c (y ∷ filter (ties lt x) ys) (filter (ties lt x) ys)) t in
      let e : x ≡ y = cc in
      let tails : SameTies xs ys =
      λ z. cancel (ties lt z y) x y (filter (ties lt z) xs) (filter (ties lt z) ys) e (ap (λ v. cond (ties lt z v) (x ∷ filter (ties lt z) xs) (filter (ties lt z) xs)) (sym e) ∙ same z) in
      ap (λ v. v ∷ xs) e ∙ ap (λ zs. y ∷ zs) (one_stable xs ys p.1 q.1 tails)

  -- in order by places is in order by recursion
  pub in_order_from : (xs : List X) → ((i j : ℕ) (d : X) → i ≤ j → j < length xs → lt (get_or xs j d) (get_or xs i d) ≡ false) → InOrder lt xs
  in_order_from [] h = tt
  in_order_from (x ∷ xs) h = (
    recursion_from_All (λ z. lt z x ≡ false) xs (λ k d l. h 0 (suc k) d (omega arith) (omega (arith, l))),
    in_order_from xs (λ i j d le l. h (suc i) (suc j) d (omega (arith, le)) (omega (arith, l))),
  )

  all_tie : (z : X) (xs : List X) → AllByRecursion (λ x. ties lt z x ≡ true) (filter (ties lt z) xs)
  all_tie z [] = tt
  all_tie z (x ∷ xs) =
      elim (ties lt z x) as (λ b. ties lt z x ≡ b → AllByRecursion (λ v. ties lt z v ≡ true) (cond b (x ∷ filter (ties lt z) xs) (filter (ties lt z) xs))) [
        | true ↦ λ e. (e, all_tie z xs)
        | false ↦ λ e. all_tie z xs
      ] refl

  -- elements that tie with one of them are in order as they stand
  chain_false : (a b z : X) → ties lt z a ≡ true → ties lt z b ≡ true → lt a b ≡ false
  chain_false a b z p q = w.chain a z b (grind arith) (grind arith)

  none_before : (x z : X) (ys : List X) → ties lt z x ≡ true → AllByRecursion (λ y. ties lt z y ≡ true) ys → AllByRecursion (λ y. lt y x ≡ false) ys
  none_before x z [] h k = tt
  none_before x z (y ∷ ys) h k = (chain_false y x z k.0 h, none_before x z ys h k.1)

  tied_in_order : (z : X) (xs : List X) → AllByRecursion (λ x. ties lt z x ≡ true) xs → InOrder lt xs
  tied_in_order z [] h = tt
  tied_in_order z (x ∷ xs) h = (none_before x z xs h.0 h.1, tied_in_order z xs h.1)

  in_order_stands : (xs : List X) → InOrder lt xs → sorted lt xs ≡ xs
  in_order_stands [] o = refl
  in_order_stands (x ∷ xs) o = sorted_head lt x xs o.0 ∙ ap (λ v. x ∷ v) (in_order_stands xs o.1)

  -- what a stable sort makes of a list is that list in order
  pub stable_is : (xs ys : List X) → IsSortedBy lt ys → IsStableBy lt xs ys → ys ≡ sorted lt xs
  stable_is xs ys up stable =
      one_stable ys (sorted lt xs) (in_order_from ys (sorted_far lt w ys up)) (in_order_sorted lt w xs)
      (λ z.
      stable z
      ∙ sym (in_order_stands (filter (ties lt z) xs) (tied_in_order z (filter (ties lt z) xs) (all_tie z xs)))
      ∙ sym (filter-sorted lt w (ties lt z) xs))
