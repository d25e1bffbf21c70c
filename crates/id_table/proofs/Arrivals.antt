-- Elements that come and go: they are in order of rank, and those of one rank in order of arrival.
use Rattle.std.proofs.Common.{◌≡◌, ℕ, ◌<◌, ◌≤◌, true, false, cond, not, eqb, ltb, List, [], ◌∷◌, ◌++◌, Option, None, Some, refl, sym, ap, ◌∙◌, subst, arith}
use Rattle.std.specs.List.{All}
use Rattle.std.specs.Cmp.{IsStrictWeakOrder}
use Rattle.std.proofs.lemmas.Bool.{ltb-true, ltb-false}
use Rattle.std.proofs.lemmas.List.Elements.{All-cons, All-append, All-weaker}
use Rattle.std.proofs.lemmas.Option.{same_Some}
use Rattle.id_table.specs.Sorting.{insert_sorted, sorted, first}
use Rattle.id_table.specs.Records.{without}
use Rattle.id_table.specs.Arrivals.{Change, comes, goes, put_after, after_changes, arrivals, ranks_below, IsEarliest, ArrivalLaw}
use Rattle.id_table.proofs.Sorting.{filter-sorted}

module _ {X : Type 0} (id rank : X → ℕ) where
  by_rank : IsStrictWeakOrder (ranks_below id rank)
  by_rank = record {
    one_way = λ x y e. grind arith;
    chain = λ x y z e f. grind arith;
  }

  -- putting one element before those of its rank, and another after those of its rank, can be done in either order
  change_places : (x t : X) (ts : List X) → insert_sorted (ranks_below id rank) x (put_after id rank ts t) ≡ put_after id rank (insert_sorted (ranks_below id rank) x ts) t
  change_places x t [] = grind arith
  change_places x t (u ∷ us) = grind (arith, change_places x t us)

  -- the last to come goes after all of its rank
  sorted_push : (ts : List X) (t : X) → put_after id rank (sorted (ranks_below id rank) ts) t ≡ sorted (ranks_below id rank) (ts ++ t ∷ [])
  sorted_push [] t = refl
  sorted_push (x ∷ xs) t = sym (change_places x t (sorted (ranks_below id rank) xs)) ∙ ap (insert_sorted (ranks_below id rank) x) (sorted_push xs t)

  pub arrivals_sorted : ArrivalLaw id rank
  arrivals_sorted [] = refl
  arrivals_sorted (comes t ∷ earlier) = ap (λ ts. put_after id rank ts t) (arrivals_sorted earlier) ∙ sorted_push (arrivals id rank earlier) t
  arrivals_sorted (goes n ∷ earlier) = ap (λ ts. without id ts n) (arrivals_sorted earlier) ∙ filter-sorted (ranks_below id rank) by_rank (λ t. not (eqb (id t) n)) (arrivals id rank earlier)

  -- ---- the first
  -- the element, or another of lesser rank
  abbrev better : X → Option X → Option X
  better x None = Some x
  better x (Some t) = cond (ltb (rank t) (rank x)) (Some t) (Some x)

  first_of_insert : (x : X) (ts : List X) → first (insert_sorted (ranks_below id rank) x ts) ≡ better x (first ts)
  first_of_insert x [] = refl
  first_of_insert x (t ∷ ts) =
      elim (ltb (rank t) (rank x)) as (λ b. first (cond b (t ∷ insert_sorted (ranks_below id rank) x ts) (x ∷ t ∷ ts)) ≡ cond b (Some t) (Some x)) [ true ↦ refl | false ↦ refl ]

  some_better : (y : X) (o : Option X) → better y o ≡ None → ⊥
  some_better y None q = cc
  some_better y (Some z) q = elim (ltb (rank z) (rank y)) as (λ b. cond b (Some z) (Some y) ≡ None → ⊥) [ true ↦ λ r. cc | false ↦ λ r. cc ] q

  none_first : (xs : List X) → first (sorted (ranks_below id rank) xs) ≡ None → xs ≡ []
  none_first [] e = refl
  none_first (x ∷ xs) e = absurd (some_better x (first (sorted (ranks_below id rank) xs)) (sym (first_of_insert x (sorted (ranks_below id rank) xs)) ∙ e))

  earliest : (xs : List X) (t : X) → first (sorted (ranks_below id rank) xs) ≡ Some t → IsEarliest id rank xs t
  earliest [] t e = absurd (cc)
  earliest (x ∷ xs) t e =
      elim (first (sorted (ranks_below id rank) xs)) as (λ o. first (sorted (ranks_below id rank) xs) ≡ o → better x o ≡ Some t → IsEarliest id rank (x ∷ xs) t) [
        | None ↦ λ none q.
            let only = none_first xs none in
            subst (IsEarliest id rank (x ∷ xs)) (same_Some x t q)
            (record { earlier = []; later = xs; among = refl; above = λ k d h. absurd (omega (arith, h)); least = subst (All (λ u. rank x ≤ rank u)) (sym only) (λ k d h. absurd (omega (arith, h))) })
        | Some b ↦ λ some q.
            let rest = earliest xs b some in
            elim (ltb (rank b) (rank x)) as (λ c. ltb (rank b) (rank x) ≡ c → cond c (Some b) (Some x) ≡ Some t → IsEarliest id rank (x ∷ xs) t) [
              | true ↦ λ less r.
                  subst (IsEarliest id rank (x ∷ xs)) (same_Some b t r)
                  (record {
                    earlier = x ∷ rest.earlier;
                    later = rest.later;
                    among = ap (λ zs. x ∷ zs) rest.among;
                    above = All-cons (λ u. rank b < rank u) x rest.earlier (ltb-true (rank b) (rank x) less) rest.above;
                    least = rest.least;
                  })
              | false ↦ λ more r.
                  let at_least : rank x ≤ rank b = ltb-false (rank b) (rank x) more in
                  subst (IsEarliest id rank (x ∷ xs)) (same_Some x t r)
                  (record {
                    earlier = [];
                    later = xs;
                    among = refl;
                    above = λ k d h. absurd (omega (arith, h));
                    least =
                        subst (All (λ u. rank x ≤ rank u)) (sym rest.among)
                        (All-append (λ u. rank x ≤ rank u) rest.earlier (b ∷ rest.later)
                        (All-weaker (λ u. rank b < rank u) (λ u. rank x ≤ rank u) (λ u h. omega (arith, h, at_least)) rest.earlier rest.above)
                        (All-cons (λ u. rank x ≤ rank u) b rest.later at_least (All-weaker (λ u. rank b ≤ rank u) (λ u. rank x ≤ rank u) (λ u h. omega (arith, h, at_least)) rest.later rest.least)));
                  })
            ] refl q
      ] refl (sym (first_of_insert x (sorted (ranks_below id rank) xs)) ∙ e)

  -- the first element came earliest of those with the least rank
  pub first_earliest : (changes : List (Change X)) (x : X) → first (after_changes id rank changes) ≡ Some x → IsEarliest id rank (arrivals id rank changes) x
  first_earliest changes x e = earliest (arrivals id rank changes) x (ap first (sym (arrivals_sorted changes)) ∙ e)

  -- if there is no first element, none is left
  pub none_after : (changes : List (Change X)) → first (after_changes id rank changes) ≡ None → arrivals id rank changes ≡ []
  none_after changes e = none_first (arrivals id rank changes) (ap first (sym (arrivals_sorted changes)) ∙ e)
