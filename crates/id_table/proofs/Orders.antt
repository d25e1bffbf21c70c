-- The laws of sorted lists.
use Rattle.std.proofs.Common.{◌≡◌, ℕ, ◌+◌, ◌<◌, Bool, true, false, cond, List, [], ◌∷◌, Some, refl, sym, ap, ◌∙◌, subst, arith}
use Rattle.std.specs.Cmp.{IsStrictWeakOrder}
use Rattle.std.specs.List.{AllByRecursion, AllPairs, All, Contains, count_by}
use Rattle.std.specs.List.Sorted.{IsPermutation, ties}
use Rattle.std.proofs.lemmas.List.Sorted.{IsPermutation-refl, IsPermutation-cons, IsPermutation-trans, IsPermutation-sym, IsPermutation-middle, Contains-permutation, sum_by-IsPermutation}
use Rattle.std.proofs.lemmas.List.Elements.{All-from_recursion, All-contains, All-cons}
use Rattle.std.proofs.lemmas.List.Kept.{AllPairs-cons}
use Rattle.std.proofs.lemmas.List.Sums.{sum_by-cons}
use Rattle.id_table.specs.Sorting.{insert_sorted, sorted, first}
use Rattle.id_table.proofs.Sorting.{InOrder, in_order_sorted, first_is}

module _ {X : Type 0} (lt : X → X → Bool) where
  in_order_pairs : (xs : List X) → InOrder lt xs → AllPairs (λ x y. lt y x ≡ false) xs
  in_order_pairs [] o = λ i j d hij hj. absurd (omega arith)
  in_order_pairs (x ∷ xs) o = AllPairs-cons (λ x y. lt y x ≡ false) x xs (All-from_recursion (λ y. lt y x ≡ false) xs o.0) (in_order_pairs xs o.1)

  IsPermutation-insert_sorted : (x : X) (ys : List X) → IsPermutation (x ∷ ys) (insert_sorted lt x ys)
  IsPermutation-insert_sorted x [] = IsPermutation-refl (x ∷ [])
  IsPermutation-insert_sorted x (y ∷ ys) =
      elim (lt y x) as (λ b. IsPermutation (x ∷ y ∷ ys) (cond b (y ∷ insert_sorted lt x ys) (x ∷ y ∷ ys))) [
        | true ↦
            IsPermutation-trans (x ∷ y ∷ ys) (y ∷ x ∷ ys) (y ∷ insert_sorted lt x ys)
            (IsPermutation-sym (y ∷ x ∷ ys) (x ∷ y ∷ ys) (IsPermutation-middle (y ∷ []) x ys))
            (IsPermutation-cons y (x ∷ ys) (insert_sorted lt x ys) (IsPermutation-insert_sorted x ys))
        | false ↦ IsPermutation-refl (x ∷ y ∷ ys)
      ]

  pub IsPermutation-sorted : (xs : List X) → IsPermutation xs (sorted lt xs)
  IsPermutation-sorted [] = IsPermutation-refl []
  IsPermutation-sorted (x ∷ xs) =
      IsPermutation-trans (x ∷ xs) (x ∷ sorted lt xs) (sorted lt (x ∷ xs)) (IsPermutation-cons x xs (sorted lt xs) (IsPermutation-sorted xs)) (IsPermutation-insert_sorted x (sorted lt xs))

  pub sorted_is : IsStrictWeakOrder lt → (xs : List X) → AllPairs (λ x y. lt y x ≡ false) (sorted lt xs) × IsPermutation xs (sorted lt xs)
  sorted_is w xs = (in_order_pairs (sorted lt xs) (in_order_sorted lt w xs), IsPermutation-sorted xs)

  -- an element is not before itself
  pub not_before_itself : IsStrictWeakOrder lt → (x : X) → lt x x ≡ false
  not_before_itself w x = elim (lt x x) as (λ b. lt x x ≡ b → lt x x ≡ false) [ true ↦ λ e. w.one_way x x e | false ↦ λ e. e ] refl

  head_least : IsStrictWeakOrder lt → (x : X) (xs : List X) → InOrder lt (x ∷ xs) → All (λ y. lt y x ≡ false) (x ∷ xs)
  head_least w x xs o = All-cons (λ y. lt y x ≡ false) x xs (not_before_itself w x) (All-from_recursion (λ y. lt y x ≡ false) xs o.0)

  pub first_least : IsStrictWeakOrder lt → (xs : List X) (x : X) → first (sorted lt xs) ≡ Some x → Contains xs x × ((y : X) → Contains xs y → lt y x ≡ false)
  first_least w xs x e =
      let split = first_is lt (sorted lt xs) x e in
      let moved : IsPermutation xs (x ∷ split.0) = subst (IsPermutation xs) split.1 (IsPermutation-sorted xs) in
      let ordered : InOrder lt (x ∷ split.0) = subst (InOrder lt) split.1 (in_order_sorted lt w xs) in (
        Contains-permutation (x ∷ split.0) xs x (IsPermutation-sym xs (x ∷ split.0) moved) (0, omega arith, refl),
        λ y at. All-contains (λ z. lt z x ≡ false) (x ∷ split.0) y (head_least w x split.0 ordered) (Contains-permutation xs (x ∷ split.0) y moved at),
      )

  -- ---- two sorted lists with the same elements
  module _ (w : IsStrictWeakOrder lt) (equals : (x y : X) → lt x y ≡ false → lt y x ≡ false → x ≡ y) where
    -- an element that ties with x is x
    tied : (x y : X) → ties lt x y ≡ true → x ≡ y
    tied x y e = equals x y (grind arith) (grind arith)

    count-cons : (x y : X) (ys : List X) → count_by (ties lt x) (y ∷ ys) ≡ cond (ties lt x y) 1 0 + count_by (ties lt x) ys
    count-cons x y ys = sum_by-cons (λ z. cond (ties lt x z) 1 0) y ys

    ties_itself : (x : X) → ties lt x x ≡ true
    ties_itself x = rw (not_before_itself w x) refl

    among : (P : X → Type 0) (x : X) (ys : List X) → AllByRecursion P ys → 0 < count_by (ties lt x) ys → P x
    among P x [] ps some = absurd (omega arith)
    among P x (y ∷ ys) ps some =
        elim (ties lt x y) as (λ b. ties lt x y ≡ b → 0 < cond b 1 0 + count_by (ties lt x) ys → P x) [
          | true ↦ λ e q. subst P (sym (tied x y e)) ps.0
          | false ↦ λ e q. among P x ys ps.1 (omega (arith, q))
        ] refl (subst (λ n. 0 < n) (count-cons x y ys) some)

    own_count : (x : X) (xs : List X) → 0 < count_by (ties lt x) (x ∷ xs)
    own_count x xs = subst (λ n. 0 < n) (sym (count-cons x x xs)) (rw (ties_itself x) (omega arith))

    heads : (x y : X) (xs ys : List X) → InOrder lt (x ∷ xs) → InOrder lt (y ∷ ys) → ((z : X) → count_by (ties lt z) (x ∷ xs) ≡ count_by (ties lt z) (y ∷ ys)) → x ≡ y
    heads x y xs ys p q same =
        equals x y
        (among (λ z. lt z y ≡ false) x (y ∷ ys) (not_before_itself w y, q.0) (subst (λ n. 0 < n) (same x) (own_count x xs)))
        (among (λ z. lt z x ≡ false) y (x ∷ xs) (not_before_itself w x, p.0) (subst (λ n. 0 < n) (sym (same y)) (own_count y ys)))

    one_order : (xs ys : List X) → InOrder lt xs → InOrder lt ys → ((z : X) → count_by (ties lt z) xs ≡ count_by (ties lt z) ys) → xs ≡ ys
    one_order [] [] p q same = refl
    one_order [] (y ∷ ys) p q same = absurd (omega (arith, same y, own_count y ys))
    one_order (x ∷ xs) [] p q same = absurd (omega (arith, same x, own_count x xs))
    one_order (x ∷ xs) (y ∷ ys) p q same =
        let e = heads x y xs ys p q same in
        let tails : (z : X) → count_by (ties lt z) xs ≡ count_by (ties lt z) ys =
        λ z. omega (arith, same z, count-cons z x xs, count-cons z y ys, ap {B = ℕ} (λ v. cond (ties lt z v) 1 0) e) in
        ap (λ v. v ∷ xs) e ∙ ap (λ zs. y ∷ zs) (one_order xs ys p.1 q.1 tails)

    pub sorted_same : (xs ys : List X) → IsPermutation xs ys → sorted lt xs ≡ sorted lt ys
    sorted_same xs ys moved =
        one_order (sorted lt xs) (sorted lt ys) (in_order_sorted lt w xs) (in_order_sorted lt w ys)
        (λ z.
        sym (sum_by-IsPermutation (λ v. cond (ties lt z v) 1 0) (sorted lt xs) (sorted lt ys)
        (IsPermutation-trans (sorted lt xs) xs (sorted lt ys) (IsPermutation-sym xs (sorted lt xs) (IsPermutation-sorted xs)) (IsPermutation-trans xs ys (sorted lt ys) moved (IsPermutation-sorted ys)))))
