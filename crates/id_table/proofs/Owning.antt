-- Tables whose objects have their ids too: changes of the rows are changes of the objects.
use Rattle.std.proofs.Common.{◌≡◌, ℕ, zero, suc, ◌+◌, ◌<◌, Bool, true, false, not, cond, eqb, ltb, List, [], ◌∷◌, take, get_or, length, Option, Some, refl, sym, ap, ◌∙◌, arith}
use Rattle.std.specs.List.{All, find}
use Rattle.std.specs.Option.{option_map}
use Rattle.std.specs.Cmp.{IsStrictWeakOrder}
use Rattle.std.proofs.lemmas.Bool.{eqb-true}
use Rattle.std.proofs.lemmas.List.{length-map}
use Rattle.id_table.specs.Records.{of_id, replace, without}
use Rattle.id_table.specs.Sorting.{pick, first, in_line}
use Rattle.id_table.proofs.Sorting.{first-sorted_more}
use Rattle.id_table.specs.Rows.{object_of, objects, with_object, next_above}
use Rattle.id_table.specs.Rows as table
use Rattle.id_table.proofs.Kept.{object_of-cons}

module _ {X : Type 0} (id : X → ℕ) where
  -- each object has the id under which the table has it
  abbrev pub OwnIds : List (ℕ × X) → Type 0
  OwnIds rs = All (λ r. id r.1 ≡ r.0) rs

  own_tail : (r : ℕ × X) (rs : List (ℕ × X)) → OwnIds (r ∷ rs) → OwnIds rs
  own_tail r rs h k d hk = h (suc k) d (omega arith)

  -- a look-up by id in the table is a look-up among its objects
  pub object-record : (rs : List (ℕ × X)) (n : ℕ) → OwnIds rs → object_of rs n ≡ of_id id (objects rs) n
  object-record [] n h = refl
  object-record (r ∷ rs) n h =
      object_of-cons r.0 r.1 rs n
      ∙ ap (cond (eqb r.0 n) (Some r.1)) (object-record rs n (own_tail r rs h))
      ∙ ap (λ m. cond (eqb m n) (Some r.1) (of_id id (objects rs) n)) (sym (h 0 r (omega arith)))

  -- a write of an object replaces that object
  pub objects-replace : (rs : List (ℕ × X)) (n : ℕ) (y : X) → OwnIds rs → objects (with_object rs n y) ≡ replace id (objects rs) n y
  objects-replace [] n y h = refl
  objects-replace (r ∷ rs) n y h =
      elim (eqb r.0 n) as (λ b. (cond b (r.0, y) r).1 ∷ objects (with_object rs n y) ≡ cond b y r.1 ∷ replace id (objects rs) n y) [
        | true ↦ ap (λ xs. y ∷ xs) (objects-replace rs n y (own_tail r rs h))
        | false ↦ ap (λ xs. r.1 ∷ xs) (objects-replace rs n y (own_tail r rs h))
      ]
      ∙ ap (λ m. cond (eqb m n) y r.1 ∷ replace id (objects rs) n y) (sym (h 0 r (omega arith)))

  pub OwnIds-write : (rs : List (ℕ × X)) (n : ℕ) (y : X) → OwnIds rs → id y ≡ n → OwnIds (with_object rs n y)
  OwnIds-write [] n y h e k d hk = absurd (omega arith)
  OwnIds-write (r ∷ rs) n y h e zero d hk =
      elim (eqb r.0 n) as (λ b. eqb r.0 n ≡ b → id (cond b (r.0, y) r).1 ≡ (cond b (r.0, y) r).0) [ true ↦ λ b. e ∙ sym (eqb-true r.0 n b) | false ↦ λ b. h 0 r (omega arith) ] refl
  OwnIds-write (r ∷ rs) n y h e (suc k) d hk = OwnIds-write rs n y (own_tail r rs h) e k d (omega arith)

  -- the least id above a number, of the rows and of their objects
  pub above-objects : (rs : List (ℕ × X)) (n : ℕ) → OwnIds rs → next_above rs n ≡ option_map id (find (λ x. ltb n (id x)) (objects rs))
  above-objects [] n h = refl
  above-objects (r ∷ rs) n h =
      ap (λ i. cond (ltb n i) (Some i) (next_above rs n)) (sym (h 0 r (omega arith)))
      ∙ elim (ltb n (id r.1)) as (λ b. cond b (Some (id r.1)) (next_above rs n) ≡ option_map id (cond b (Some r.1) (find (λ x. ltb n (id x)) (objects rs)))) [
        | true ↦ refl
        | false ↦ above-objects rs n (own_tail r rs h)
      ]

  -- removing a row removes its object
  pub objects-without : (rs : List (ℕ × X)) (n : ℕ) → OwnIds rs → objects (table.without rs n) ≡ without id (objects rs) n
  objects-without [] n h = refl
  objects-without (r ∷ rs) n h =
      elim (eqb r.0 n) as (λ b. objects (cond (not b) (r ∷ table.without rs n) (table.without rs n)) ≡ cond (not b) (r.1 ∷ without id (objects rs) n) (without id (objects rs) n)) [
        | true ↦ objects-without rs n (own_tail r rs h)
        | false ↦ ap (λ xs. r.1 ∷ xs) (objects-without rs n (own_tail r rs h))
      ]
      ∙ ap (λ m. cond (not (eqb m n)) (r.1 ∷ without id (objects rs) n) (without id (objects rs) n)) (sym (h 0 r (omega arith)))

-- one object further in a scan of a table
pub pass_more : {X : Type 0} (lt : X → X → Bool) → IsStrictWeakOrder lt → (p : X → Bool) (rs : List (ℕ × X)) (i n : ℕ) (x : X) (best more : Option X)
    → n ≡ length rs → i < n → x ≡ get_or (objects rs) i x → best ≡ first (in_line lt p (take i (objects rs))) → more ≡ pick lt p best x
    → more ≡ first (in_line lt p (take (i + 1) (objects rs)))
pass_more {X = X} lt order p rs i n x best more long within here so_far step =
    step ∙ ap (λ o. pick lt p o x) so_far ∙ ap (pick lt p (first (in_line lt p (take i (objects rs))))) here
    ∙ sym (first-sorted_more lt order p (objects rs) i x (omega (arith, long, within, length-map rs (λ (r : ℕ × X). r.1))))
