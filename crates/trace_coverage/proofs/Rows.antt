-- A module of the table, found by its id.
use Rattle.std.proofs.Common.{◌≡◌, ℕ, suc, ◌<◌, ◌==◌, Bool, true, false, ◌&&◌, ◌||◌, cond, List, [], ◌∷◌, ◌++◌, length, map, get_or, Option, None, Some, inl, inr, refl, sym, ap, ◌∙◌, append_assoc, arith}
use Rattle.std.specs.List.{filter, find, list_any}
use Rattle.std.specs.Option.{option_map}
use Rattle.std.proofs.lemmas.Bool.{and_left, cases_eq, eq-eqb, ne_eqb, or_from}
use Rattle.std.proofs.lemmas.List.{append-nil}
use Rattle.id_table.specs.Records.{Rising}
use Rattle.id_table.specs.Rows.{object_of, row_id, row_object}
use Rattle.trace_coverage.proofs.Lists.{or_false}

other : (a b : ℕ) → a < b → b ≡ a → ⊥
other a b less e = omega arith

module _ {X : Type 0} where
  -- an object that is found passes a test
  abbrev pub passes : (X → Bool) → Option X → Bool
  passes q None = false
  passes q (Some x) = q x

  no_later : (rs : List (ℕ × X)) (id : ℕ) (q : X → Bool) → ((j : ℕ) (d : ℕ × X) → j < length rs → id < (get_or rs j d).0) → list_any (λ r. r.0 == id && q r.1) rs ≡ false
  no_later [] id q up = refl
  no_later (r ∷ rs) id q up =
      or_from (r.0 == id && q r.1) (list_any (λ y. y.0 == id && q y.1) rs)
      (and_left (r.0 == id) (q r.1) (ne_eqb r.0 id (other id r.0 (up 0 r (omega arith)))))
      (no_later rs id q (λ j d less. up (suc j) d (omega (arith, less))))

  -- a row with this id passes a test if the object that is found does
  pub of_id : (rows : List (ℕ × X)) (id : ℕ) (q : X → Bool) → Rising row_id rows → list_any (λ r. r.0 == id && q r.1) rows ≡ passes q (object_of rows id)
  of_id [] id q up = refl
  of_id (r ∷ rs) id q up =
      let test = λ (y : ℕ × X). y.0 == id && q y.1 in
      let look = λ (t : Bool). passes q (option_map row_object (cond t (Some r) (find (λ y. row_id y == id) rs))) in
      elim (cases_eq r.0 id) [
        | inl same ↦ (
            let e = eq-eqb r.0 id same in
            ap (λ v. (v && q r.1) || list_any test rs) e
            ∙ ap (λ v. q r.1 || v) (no_later rs id q (λ j d less. (let h = up 0 (suc j) d (omega arith) (omega (arith, less)) in omega (arith, same, h))))
            ∙ or_false (q r.1)
            ∙ sym (ap look e))
        | inr differ ↦ (
            let e = ne_eqb r.0 id differ in
            ap (λ v. (v && q r.1) || list_any test rs) e
            ∙ of_id rs id q (λ i j d h l. up (suc i) (suc j) d (omega (arith, h)) (omega (arith, l)))
            ∙ sym (ap look e))
      ]

-- ---- the rows that pass a test, one after another
module _ {A B : Type 0} (f : A → B) (q : A → Bool) where
  pub split_first : (items : List B) (a : A) (rest : List A) → (items ++ map f (filter q (a ∷ []))) ++ map f (filter q rest) ≡ items ++ map f (filter q (a ∷ rest))
  split_first items a rest =
      append_assoc items (map f (filter q (a ∷ []))) (map f (filter q rest))
      ∙ ap (λ ys. items ++ ys)
      (elim (q a) as (λ v. map f (cond v (a ∷ []) []) ++ map f (filter q rest) ≡ map f (cond v (a ∷ filter q rest) (filter q rest)))
      [ true ↦ refl | false ↦ refl ])

  -- one more row was looked at
  pub one_row : (items new all : List B) (before after : List A) (a : A) → before ≡ a ∷ after → items ++ map f (filter q before) ≡ all → new ≡ items ++ map f (filter q (a ∷ [])) → new ++ map f (filter q after) ≡ all
  one_row items new all before after a split here is =
      ap (λ p. p ++ map f (filter q after)) is
      ∙ split_first items a after
      ∙ ap (λ ys. items ++ map f (filter q ys)) (sym split)
      ∙ here

  -- no row is left
  pub no_row : (items all : List B) (before : List A) → before ≡ [] → items ++ map f (filter q before) ≡ all → items ≡ all
  no_row items all before none here = sym (append-nil items) ∙ ap (λ ys. items ++ map f (filter q ys)) (sym none) ∙ here
