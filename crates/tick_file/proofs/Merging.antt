-- Lists in order; that tied elements are equal is required only of the list's own elements.
use Rattle.std.proofs.Common.{◌≡◌, ℕ, ◌+◌, ◌<◌, Bool, true, false, cond, List, [], ◌∷◌, ◌++◌, refl, sym, ap, ◌∙◌, subst, arith}
use Rattle.std.specs.Cmp.{IsStrictWeakOrder}
use Rattle.std.specs.List.{AllByRecursion, count_by, sum_by, flat_map}
use Rattle.std.specs.List.Sorted.{ties}
use Rattle.std.proofs.lemmas.List.Sorted.{All-permutation, sum_by-IsPermutation}
use Rattle.std.proofs.lemmas.List.Elements.{All-from_recursion, recursion_from_All}
use Rattle.std.proofs.lemmas.List.Sums.{sum_by-cons, sum_by-append}
use Rattle.id_table.specs.Sorting.{insert_sorted, sorted}
use Rattle.id_table.proofs.Sorting.{InOrder, in_order_sorted}
use Rattle.id_table.proofs.Orders.{IsPermutation-sorted, not_before_itself}

module _ {X : Type 0} where
  pub all_both : (P : X → Type 0) (xs ys : List X) → AllByRecursion P xs → AllByRecursion P ys → AllByRecursion P (xs ++ ys)
  all_both P [] ys ps qs = qs
  all_both P (x ∷ xs) ys ps qs = (ps.0, all_both P xs ys ps.1 qs)

  pub all_weaker : (P Q : X → Type 0) → ((x : X) → P x → Q x) → (ys : List X) → AllByRecursion P ys → AllByRecursion Q ys
  all_weaker P Q f [] ps = tt
  all_weaker P Q f (y ∷ ys) ps = (f y ps.0, all_weaker P Q f ys ps.1)

  pub all_sorted : (lt : X → X → Bool) (P : X → Type 0) (xs : List X) → AllByRecursion P xs → AllByRecursion P (sorted lt xs)
  all_sorted lt P xs ps = recursion_from_All P (sorted lt xs) (All-permutation P xs (sorted lt xs) (IsPermutation-sorted lt xs) (All-from_recursion P xs ps))

  at_head : (lt : X → X → Bool) (x : X) (ys : List X) → AllByRecursion (λ y. lt y x ≡ false) ys → insert_sorted lt x ys ≡ x ∷ ys
  at_head lt x [] h = refl
  at_head lt x (y ∷ ys) h = rw h.0 refl

  -- if no other element is before the first, it is also the first in order
  pub sorted_head : (lt : X → X → Bool) (x : X) (xs : List X) → AllByRecursion (λ y. lt y x ≡ false) xs → sorted lt (x ∷ xs) ≡ x ∷ sorted lt xs
  sorted_head lt x xs h = at_head lt x (sorted lt xs) (all_sorted lt (λ y. lt y x ≡ false) xs h)

  -- how many pass a test in several lists together
  pub count-flat_map : {Y : Type 0} (p : X → Bool) (f : Y → List X) (ys : List Y) → count_by p (flat_map f ys) ≡ sum_by (λ y. count_by p (f y)) ys
  count-flat_map p f [] = refl
  count-flat_map p f (y ∷ ys) =
      sum_by-append (λ x. cond (p x) 1 0) (f y) (flat_map f ys)
      ∙ ap (λ n. count_by p (f y) + n) (count-flat_map p f ys)
      ∙ sym (sum_by-cons (λ y. count_by p (f y)) y ys)

module _ {X : Type 0} (lt : X → X → Bool) (w : IsStrictWeakOrder lt) (P : X → Type 0) (equals : (x y : X) → P x → P y → lt x y ≡ false → lt y x ≡ false → x ≡ y) where
  tied : (x y : X) → P x → P y → ties lt x y ≡ true → x ≡ y
  tied x y p q e = equals x y p q (grind arith) (grind arith)

  count-cons : (x y : X) (ys : List X) → count_by (ties lt x) (y ∷ ys) ≡ cond (ties lt x y) 1 0 + count_by (ties lt x) ys
  count-cons x y ys = sum_by-cons (λ z. cond (ties lt x z) 1 0) y ys

  ties_itself : (x : X) → ties lt x x ≡ true
  ties_itself x = rw (not_before_itself lt w x) refl

  among : (Q : X → Type 0) (x : X) (ys : List X) → P x → AllByRecursion P ys → AllByRecursion Q ys → 0 < count_by (ties lt x) ys → Q x
  among Q x [] p ps qs some = absurd (omega arith)
  among Q x (y ∷ ys) p ps qs some =
      elim (ties lt x y) as (λ b. ties lt x y ≡ b → 0 < cond b 1 0 + count_by (ties lt x) ys → Q x) [
        | true ↦ λ e r. subst Q (sym (tied x y p ps.0 e)) qs.0
        | false ↦ λ e r. among Q x ys p ps.1 qs.1 (omega (arith, r))
      ] refl (subst (λ n. 0 < n) (count-cons x y ys) some)

  own_count : (x : X) (xs : List X) → 0 < count_by (ties lt x) (x ∷ xs)
  own_count x xs = subst (λ n. 0 < n) (sym (count-cons x x xs)) (rw (ties_itself x) (omega arith))

  heads : (x y : X) (xs ys : List X) → AllByRecursion P (x ∷ xs) → AllByRecursion P (y ∷ ys) → InOrder lt (x ∷ xs) → InOrder lt (y ∷ ys)
      → ((z : X) → count_by (ties lt z) (x ∷ xs) ≡ count_by (ties lt z) (y ∷ ys)) → x ≡ y
  heads x y xs ys ps qs p q same =
      equals x y ps.0 qs.0
      (among (λ z. lt z y ≡ false) x (y ∷ ys) ps.0 qs (not_before_itself lt w y, q.0) (subst (λ n. 0 < n) (same x) (own_count x xs)))
      (among (λ z. lt z x ≡ false) y (x ∷ xs) qs.0 ps (not_before_itself lt w x, p.0) (subst (λ n. 0 < n) (sym (same y)) (own_count y ys)))

  one_order : (xs ys : List X) → AllByRecursion P xs → AllByRecursion P ys → InOrder lt xs → InOrder lt ys → ((z : X) → count_by (ties lt z) xs ≡ count_by (ties lt z) ys) → xs ≡ ys
  one_order [] [] ps qs p q same = refl
  one_order [] (y ∷ ys) ps qs p q same = absurd (omega (arith, same y, own_count y ys))
  one_order (x ∷ xs) [] ps qs p q same = absurd (omega (arith, same x, own_count x xs))
  one_order (x ∷ xs) (y ∷ ys) ps qs p q same =
      let e = heads x y xs ys ps qs p q same in
      let tails : (z : X) → count_by (ties lt z) xs ≡ count_by (ties lt z) ys =
      λ z. omega (arith, same z, count-cons z x xs, count-cons z y ys, ap {B = ℕ} (λ v. cond (ties lt z v) 1 0) e) in
      ap (λ v. v ∷ xs) e ∙ ap (λ zs. y ∷ zs) (one_order xs ys ps.1 qs.1 p.1 q.1 tails)

  -- two lists in which as many tie with each element are one list in order
  pub sorted_alike : (xs ys : List X) → AllByRecursion P xs → AllByRecursion P ys → ((z : X) → count_by (ties lt z) xs ≡ count_by (ties lt z) ys) → sorted lt xs ≡ sorted lt ys
  sorted_alike xs ys ps qs same =
      one_order (sorted lt xs) (sorted lt ys) (all_sorted lt P xs ps) (all_sorted lt P ys qs) (in_order_sorted lt w xs) (in_order_sorted lt w ys)
      (λ z.
      sum_by-IsPermutation (λ v. cond (ties lt z v) 1 0) xs (sorted lt xs) (IsPermutation-sorted lt xs)
      ∙ same z
      ∙ sym (sum_by-IsPermutation (λ v. cond (ties lt z v) 1 0) ys (sorted lt ys) (IsPermutation-sorted lt ys)))
