-- What a stable sort leaves is the list in order.
use Rattle.std.proofs.Common.{◌≡◌, ℕ, suc, ◌<◌, ◌≤◌, Bool, true, false, cond, List, [], ◌∷◌, get_or, length, refl, sym, ap, ◌∙◌, arith}
use Rattle.std.specs.Prelude.{not, ◌&&◌}
use Rattle.std.specs.Cmp.{IsStrictWeakOrder}
use Rattle.std.specs.List.{filter, AllByRecursion}
use Rattle.std.specs.List.Sorted.{ties, IsSortedBy, IsStableBy}
use Rattle.std.proofs.lemmas.List.Sorted.{sorted_far}
use Rattle.id_table.specs.Sorting.{insert_sorted, sorted}
use Rattle.id_table.proofs.Sorting.{InOrder, in_order_sorted, filter-sorted}

-- ---- the tests
-- neither of two holds
both_false : (a b : Bool) → (not a && not b) ≡ true → (a ≡ false) × (b ≡ false)
both_false true b e = absurd (cc)
both_false false true e = absurd (cc)
both_false false false e = (refl, refl)

-- the rest is the same where the first is
rest_same : {X : Type 0} (b : Bool) (y : X) (us vs : List X) → cond b (y ∷ us) us ≡ cond b (y ∷ vs) vs → us ≡ vs
rest_same true y us vs e = cc
rest_same false y us vs e = e

module _ {X : Type 0} where
  all_of : (P : X → Type 0) (ys : List X) → ((k : ℕ) (d : X) → k < length ys → P (get_or ys k d)) → AllByRecursion P ys
  all_of P [] f = tt
  all_of P (y ∷ ys) f = (f 0 y (omega arith), all_of P ys (λ k d lt. f (suc k) d (omega arith)))

  all_kept : (q : X → Bool) (ys : List X) → AllByRecursion (λ y. q y ≡ true) (filter q ys)
  all_kept q [] = tt
  all_kept q (y ∷ ys) =
      elim (q y) as (λ b. q y ≡ b → AllByRecursion (λ y. q y ≡ true) (cond b (y ∷ filter q ys) (filter q ys))) [
        | true ↦ λ e. (e, all_kept q ys)
        | false ↦ λ e. all_kept q ys
      ] refl

  all_more : (P Q : X → Type 0) → ((x : X) → P x → Q x) → (ys : List X) → AllByRecursion P ys → AllByRecursion Q ys
  all_more P Q f [] ps = tt
  all_more P Q f (y ∷ ys) ps = (f y ps.0, all_more P Q f ys ps.1)

  none_kept : (q : X → Bool) (ys : List X) → AllByRecursion (λ y. q y ≡ false) ys → filter q ys ≡ []
  none_kept q [] ps = refl
  none_kept q (y ∷ ys) ps = ap (λ b. cond b (y ∷ filter q ys) (filter q ys)) ps.0 ∙ none_kept q ys ps.1

module _ {X : Type 0} (lt : X → X → Bool) (w : IsStrictWeakOrder lt) where
  itself : (x : X) → lt x x ≡ false
  itself x = elim (lt x x) as (λ b. lt x x ≡ b → lt x x ≡ false) [ true ↦ λ e. w.one_way x x e | false ↦ λ e. e ] refl

  tie : (x y : X) → lt x y ≡ false → lt y x ≡ false → ties lt x y ≡ true
  tie x y a b = ap (λ s. not s && not (lt y x)) a ∙ ap (λ s. not s) b

  -- in an ordered list, what comes after y ties with nothing that is before y
  no_tie : (z y e : X) → lt z y ≡ true → lt e y ≡ false → ties lt z e ≡ false
  no_tie z y e before after =
      elim (lt z e) as (λ b. lt z e ≡ b → ties lt z e ≡ false) [
        | true ↦ λ q. ap (λ s. not s && not (lt e z)) q
        | false ↦ λ q. (let no : lt z y ≡ false = w.chain z e y q after in absurd (cc))
      ] refl

  -- an element before the first of an ordered list ties with none of the list
  none_tie : (z y : X) (ys : List X) → lt z y ≡ true → InOrder lt (y ∷ ys) → filter (ties lt z) (y ∷ ys) ≡ []
  none_tie z y ys before o = none_kept (ties lt z) (y ∷ ys)
      (no_tie z y y before (itself y), all_more (λ e. lt e y ≡ false) (λ e. ties lt z e ≡ false) (λ e after. no_tie z y e before after) ys o.0)

  -- the first of a list ties with itself
  first_kept : (z : X) (zs : List X) → filter (ties lt z) (z ∷ zs) ≡ z ∷ filter (ties lt z) zs
  first_kept z zs = ap (λ b. cond b (z ∷ filter (ties lt z) zs) (filter (ties lt z) zs)) (tie z z (itself z) (itself z))

  -- the first of one is not before that of the other
  not_before : (z : X) (zs : List X) (y : X) (ys : List X) → InOrder lt (y ∷ ys) → filter (ties lt z) (y ∷ ys) ≡ filter (ties lt z) (z ∷ zs) → lt z y ≡ false
  not_before z zs y ys o e =
      elim (lt z y) as (λ b. lt z y ≡ b → lt z y ≡ false) [
        | true ↦ λ q. (let empty : [] ≡ z ∷ filter (ties lt z) zs = sym (none_tie z y ys q o) ∙ e ∙ first_kept z zs in absurd (cc))
        | false ↦ λ q. q
      ] refl

  abbrev Alike : List X → List X → Type 0
  Alike ys zs = (x : X) → filter (ties lt x) ys ≡ filter (ties lt x) zs

  same_first : (y z : X) (ys zs : List X) → InOrder lt (y ∷ ys) → InOrder lt (z ∷ zs) → Alike (y ∷ ys) (z ∷ zs) → y ≡ z
  same_first y z ys zs a b h =
      let up = not_before z zs y ys a (h z) in
      let down = not_before y ys z zs b (sym (h y)) in
      let both = ap (λ s. cond s (z ∷ filter (ties lt y) zs) (filter (ties lt y) zs)) (tie y z down up) in
      let heads : y ∷ filter (ties lt y) ys ≡ z ∷ filter (ties lt y) zs = sym (first_kept y ys) ∙ h y ∙ both in
      cc

  -- two ordered lists, in which each group of ties is the same
  same : (ys zs : List X) → InOrder lt ys → InOrder lt zs → Alike ys zs → ys ≡ zs
  same [] [] a b h = refl
  same [] (z ∷ zs) a b h = let empty : [] ≡ z ∷ filter (ties lt z) zs = h z ∙ first_kept z zs in absurd (cc)
  same (y ∷ ys) [] a b h = let empty : [] ≡ y ∷ filter (ties lt y) ys = sym (h y) ∙ first_kept y ys in absurd (cc)
  same (y ∷ ys) (z ∷ zs) a b h =
      let e = same_first y z ys zs a b h in
      let back : Alike (y ∷ ys) (y ∷ zs) = λ x. h x ∙ ap (λ v. filter (ties lt x) (v ∷ zs)) (sym e) in
      ap (λ v. v ∷ ys) e ∙ ap (λ vs. z ∷ vs) (same ys zs a.1 b.1 (λ x. rest_same (ties lt x y) y (filter (ties lt x) ys) (filter (ties lt x) zs) (back x)))

  -- no element is before one at an earlier place
  abbrev Far : List X → Type 0
  Far ys = (i j : ℕ) (d : X) → i ≤ j → j < length ys → lt (get_or ys j d) (get_or ys i d) ≡ false

  in_order_of : (ys : List X) → Far ys → InOrder lt ys
  in_order_of [] far = tt
  in_order_of (y ∷ ys) far = (
    all_of (λ z. lt z y ≡ false) ys (λ k d less. far 0 (suc k) d (omega arith) (omega arith)),
    in_order_of ys (λ i j d le less. far (suc i) (suc j) d (omega arith) (omega arith)),
  )

  at_head : (x : X) (ys : List X) → AllByRecursion (λ z. lt z x ≡ false) ys → insert_sorted lt x ys ≡ x ∷ ys
  at_head x [] h = refl
  at_head x (y ∷ ys) h = rw h.0 refl

  -- a list of ties is in order
  all_tie : (x : X) (ys : List X) → AllByRecursion (λ y. ties lt x y ≡ true) ys → sorted lt ys ≡ ys
  all_tie x [] ps = refl
  all_tie x (y ∷ ys) ps =
      let first = both_false (lt x y) (lt y x) ps.0 in
      ap (insert_sorted lt y) (all_tie x ys ps.1)
      ∙ at_head y ys (all_more (λ z. ties lt x z ≡ true) (λ z. lt z y ≡ false) (λ z p. w.chain z x y (both_false (lt x z) (lt z x) p).1 first.0) ys ps.1)

  ties_stay : (x : X) (xs : List X) → filter (ties lt x) (sorted lt xs) ≡ filter (ties lt x) xs
  ties_stay x xs = filter-sorted lt w (ties lt x) xs ∙ all_tie x (filter (ties lt x) xs) (all_kept (ties lt x) xs)

  -- a list sorted by the test, in which ties keep their order, is the ordered list
  pub stable_sorted : (xs ys : List X) → IsSortedBy lt ys → IsStableBy lt xs ys → ys ≡ sorted lt xs
  stable_sorted xs ys up stable =
      same ys (sorted lt xs) (in_order_of ys (sorted_far lt w ys up)) (in_order_sorted lt w xs) (λ x. stable x ∙ sym (ties_stay x xs))
