-- The elements that pass a test, in order, after one of them changed and no longer passes.
use Rattle.std.proofs.Common.{◌≡◌, ℕ, suc, ◌+◌, ◌<◌, ◌≤◌, Bool, false, cond, not, eqb, List, [], ◌∷◌, length, get_or, refl, sym, ap, ◌∙◌, subst, arith, None, Some, true}
use Rattle.std.specs.List.{filter, All, Contains}
use Rattle.std.specs.Cmp.{IsStrictWeakOrder}
use Rattle.std.proofs.lemmas.Bool.{eq-eqb}
use Rattle.std.proofs.lemmas.List.Elements.{All-cons, All-contains, All-weaker, All-contains_itself, All-filter, filter_passes}
use Rattle.std.proofs.lemmas.List.{nil_from_length}
use Rattle.id_table.specs.Records.{of_id, change, Rising}
use Rattle.id_table.specs.Sorting.{sorted, first, in_line}
use Rattle.id_table.proofs.Sorting.{filter-sorted, length-sorted, no_first}
use Rattle.id_table.proofs.Orders.{first_least}
use Rattle.id_table.proofs.Records.{rising_tail, rising_head, found_in}

module _ {X : Type 0} where
  pub length-filter_filter : (p q : X → Bool) (xs : List X) → length (filter p (filter q xs)) ≤ length (filter p xs)
  length-filter_filter p q [] = omega arith
  length-filter_filter p q (x ∷ xs) = grind (arith, length-filter_filter p q xs)

  pub length-filter : (p : X → Bool) (xs : List X) → length (filter p xs) ≤ length xs
  length-filter p [] = omega arith
  length-filter p (x ∷ xs) = grind (arith, length-filter p xs)

  filter_keeps : (q : X → Bool) (xs : List X) → filter q xs ≡ [] → filter (λ x. not (q x)) xs ≡ xs
  filter_keeps q [] e = refl
  filter_keeps q (x ∷ xs) e = grind (arith, filter_keeps q xs)

  none_kept : (p : X → Bool) (xs : List X) → filter p xs ≡ [] → All (λ y. p y ≡ false) xs
  none_kept p [] e = λ k d h. absurd (omega arith)
  none_kept p (x ∷ xs) e =
      elim (p x) as (λ b. p x ≡ b → cond b (x ∷ filter p xs) (filter p xs) ≡ [] → All (λ y. p y ≡ false) (x ∷ xs)) [
        | true ↦ λ b q. absurd (cc)
        | false ↦ λ b q. All-cons (λ y. p y ≡ false) x xs b (none_kept p xs q)
      ] refl e

  -- an element that passes the test is one of those that do
  pub contains_filter : (p : X → Bool) (xs : List X) → All (λ y. p y ≡ true → Contains (filter p xs) y) xs
  contains_filter p [] = λ k d h. absurd (omega arith)
  contains_filter p (x ∷ xs) =
      All-cons (λ y. p y ≡ true → Contains (filter p (x ∷ xs)) y) x xs
      (λ px. subst (λ b. Contains (cond b (x ∷ filter p xs) (filter p xs)) x) (sym px) (0, omega arith, refl))
      (All-weaker (λ y. p y ≡ true → Contains (filter p xs) y) (λ y. p y ≡ true → Contains (filter p (x ∷ xs)) y)
      (λ y inner py.
      let at : Contains (filter p xs) y = inner py in
      elim (p x) as (λ b. Contains (cond b (x ∷ filter p xs) (filter p xs)) y) [ true ↦ (suc at.0, omega (arith, at.1), at.2) | false ↦ at ])
      xs (contains_filter p xs))

module _ {X : Type 0} (id : X → ℕ) where
  abbrev is_id : ℕ → X → Bool
  is_id n x = eqb (id x) n

  abbrev is_other : ℕ → X → Bool
  is_other n x = not (eqb (id x) n)

  none_above : (n : ℕ) (xs : List X) → ((k : ℕ) (d : X) → k < length xs → n < id (get_or xs k d)) → filter (is_id n) xs ≡ []
  none_above n [] h = refl
  none_above n (x ∷ xs) h =
      let ih = none_above n xs (λ k d hk. h (suc k) d (omega arith)) in
      let above : n < id x = h 0 x (omega arith) in
      grind (arith, ih)

  at_most_one : (n : ℕ) (xs : List X) → Rising id xs → length (filter (is_id n) xs) ≤ 1
  at_most_one n [] up = omega arith
  at_most_one n (x ∷ xs) up =
      let ih = at_most_one n xs (rising_tail id x xs up) in
      let alone : id x ≡ n → filter (is_id n) xs ≡ [] = λ e. none_above n xs (λ k d hk. let above = rising_head id x xs up k d hk in omega arith) in
      grind (arith, ih, alone)

  filter-change : (p : X → Bool) (f : X → X) (n : ℕ) (xs : List X) → ((x : X) → p (f x) ≡ false) → filter p (change id xs n f) ≡ filter (is_other n) (filter p xs)
  filter-change p f n [] h = refl
  filter-change p f n (x ∷ xs) h = grind (arith, filter-change p f n xs h, h x)

  module _ (lt : X → X → Bool) (order : IsStrictWeakOrder lt) (p : X → Bool) where
    few_of_id : (xs : List X) (n : ℕ) → length (filter (is_id n) (in_line lt p xs)) ≤ length (filter (is_id n) xs)
    few_of_id xs n =
        rw (filter-sorted lt order (is_id n) (filter p xs), length-sorted lt (filter (is_id n) (filter p xs))) (length-filter_filter (is_id n) p xs)

    front_counts : (xs : List X) (x : X) (rest : List X) → in_line lt p xs ≡ x ∷ rest → length (filter (is_id (id x)) rest) + 1 ≤ length (filter (is_id (id x)) xs)
    front_counts xs x rest e =
        let few : length (filter (is_id (id x)) (x ∷ rest)) ≤ length (filter (is_id (id x)) xs) = subst (λ ys. length (filter (is_id (id x)) ys) ≤ length (filter (is_id (id x)) xs)) e (few_of_id xs (id x)) in
        let more : length (x ∷ filter (is_id (id x)) rest) ≤ length (filter (is_id (id x)) xs) =
        subst (λ b. length (cond b (x ∷ filter (is_id (id x)) rest) (filter (is_id (id x)) rest)) ≤ length (filter (is_id (id x)) xs)) (eq-eqb (id x) (id x) refl) few in
        omega arith

    rest_without : (xs : List X) (x : X) (rest : List X) → Rising id xs → in_line lt p xs ≡ x ∷ rest → filter (is_other (id x)) (in_line lt p xs) ≡ rest
    rest_without xs x rest up e =
        let none : filter (is_id (id x)) rest ≡ [] = nil_from_length (filter (is_id (id x)) rest) (omega (arith, front_counts xs x rest e, at_most_one (id x) xs up)) in
        ap (filter (is_other (id x))) e
        ∙ ap (λ b. cond (not b) (x ∷ filter (is_other (id x)) rest) (filter (is_other (id x)) rest)) (eq-eqb (id x) (id x) refl)
        ∙ filter_keeps (is_id (id x)) rest none

    -- after the first one changed and no longer passes, the others keep their order
    pub in_line-change : (xs : List X) (f : X → X) (x : X) (rest : List X) → ((y : X) → p (f y) ≡ false) → Rising id xs → in_line lt p xs ≡ x ∷ rest
        → in_line lt p (change id xs (id x) f) ≡ rest
    in_line-change xs f x rest gone up e =
        ap (sorted lt) (filter-change p f (id x) xs gone)
        ∙ sym (filter-sorted lt order (is_other (id x)) (filter p xs))
        ∙ rest_without xs x rest up e

    pub length-in_line : (xs : List X) → length (in_line lt p xs) ≤ length xs
    length-in_line xs = rw (length-sorted lt (filter p xs)) (length-filter p xs)

    -- the first one is in the list, and passes
    pub front_found : (xs : List X) (x : X) → Rising id xs → first (in_line lt p xs) ≡ Some x → of_id id xs (id x) ≡ Some x
    front_found xs x up e =
        found_in id xs x up (All-contains (Contains xs) (filter p xs) x (All-filter p (Contains xs) xs (All-contains_itself xs)) (first_least lt order (filter p xs) x e).0)

    pub front_passes : (xs : List X) (x : X) → first (in_line lt p xs) ≡ Some x → p x ≡ true
    front_passes xs x e = All-contains (λ y. p y ≡ true) (filter p xs) x (filter_passes p xs) (first_least lt order (filter p xs) x e).0

    -- if there is no first one, none passes
    pub none_passes : (xs : List X) → first (in_line lt p xs) ≡ None → All (λ y. p y ≡ false) xs
    none_passes xs e = none_kept p xs (nil_from_length (filter p xs) (omega (arith, length-sorted lt (filter p xs), ap length (no_first lt (in_line lt p xs) e))))
