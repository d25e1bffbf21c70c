-- Look-ups by id in a table's rows, before and after changes.
use Rattle.std.proofs.Common.{◌≡◌, ℕ, ◌<◌, Bool, true, false, not, cond, eqb, List, [], ◌∷◌, ◌++◌, Option, None, Some, is_some, refl, sym, ap, ◌∙◌, subst}
use Rattle.std.specs.List.{All}
use Rattle.std.specs.Option.{option_map}
use Rattle.std.proofs.lemmas.Bool.{eqb-true}
use Rattle.std.proofs.lemmas.List.Elements.{All-contains, All-cons, All-head, All-tail}
use Rattle.id_table.specs.Records.{of_id}
use Rattle.id_table.proofs.Records.{found_id, found_at}
use Rattle.id_table.specs.Rows.{Rows, IsId, IsTable, IdsBelow, row_id, row_object, object_of, with_object, without}
use Rattle.id_table.proofs.Kept.{object_of-cons}

module _ {T : Type 0} where
  -- a number that isn't an id isn't found
  pub no_object_of : (t : Rows T) (n : ℕ) → IsTable t → (IsId n → ⊥) → object_of t.rows n ≡ None
  no_object_of t n is outside =
      elim (of_id row_id t.rows n) as (λ o. of_id row_id t.rows n ≡ o → option_map row_object o ≡ None) [
        | None ↦ λ e. refl
        | Some r ↦ λ e. absurd (outside (subst IsId (found_id row_id t.rows n r e) (All-contains (λ x. IsId x.0) t.rows r is.ranged (found_at row_id t.rows n r e))))
      ] refl

  -- the first row, overwritten or not, and the rest of the look-up
  at_first : (i n id : ℕ) (v w y : T) (o p : Option T) → (eqb i n ≡ true → cond (eqb n id) y v ≡ w) → p ≡ option_map (λ x. cond (eqb n id) y x) o
      → cond (eqb i n) (Some w) p ≡ option_map (λ x. cond (eqb n id) y x) (cond (eqb i n) (Some v) o)
  at_first i n id v w y o p here rest =
      elim (eqb i n) as (λ b. eqb i n ≡ b → cond b (Some w) p ≡ option_map (λ x. cond (eqb n id) y x) (cond b (Some v) o)) [
        | true ↦ λ b. ap Some (sym (here b))
        | false ↦ λ b. rest
      ] refl

  -- a look-up after one object is written
  pub object_of-write : (rs : List (ℕ × T)) (id n : ℕ) (y : T) → object_of (with_object rs id y) n ≡ option_map (λ x. cond (eqb n id) y x) (object_of rs n)
  object_of-write [] id n y = refl
  object_of-write (r ∷ rs) id n y =
      let rest = object_of-write rs id n y in
      let is : eqb r.0 n ≡ true → (d : Bool) → eqb r.0 id ≡ d → cond (eqb n id) y r.1 ≡ cond d y r.1 = λ b d e. ap (λ c. cond c y r.1) (ap (λ m. eqb m id) (sym (eqb-true r.0 n b)) ∙ e) in
      elim (eqb r.0 id) as (λ b. eqb r.0 id ≡ b → object_of (cond b (r.0, y) r ∷ with_object rs id y) n ≡ option_map (λ x. cond (eqb n id) y x) (cond (eqb r.0 n) (Some r.1) (object_of rs n))) [
        | true ↦ λ b. object_of-cons r.0 y (with_object rs id y) n ∙ at_first r.0 n id r.1 y y (object_of rs n) (object_of (with_object rs id y) n) (λ e. is e true b) rest
        | false ↦ λ b. object_of-cons r.0 r.1 (with_object rs id y) n ∙ at_first r.0 n id r.1 r.1 y (object_of rs n) (object_of (with_object rs id y) n) (λ e. is e false b) rest
      ] refl
      ∙ ap (option_map (λ x. cond (eqb n id) y x)) (sym (object_of-cons r.0 r.1 rs n))

  -- a look-up after an object is removed
  pub object_of-without : (rs : List (ℕ × T)) (id n : ℕ) → object_of (without rs id) n ≡ cond (eqb n id) None (object_of rs n)
  object_of-without [] id n = elim (eqb n id) as (λ b. ◌≡◌ {A = Option T} None (cond b None None)) [ true ↦ refl | false ↦ refl ]
  object_of-without (r ∷ rs) id n =
      elim (eqb r.0 id) as (λ b. eqb r.0 id ≡ b → object_of (cond (not b) (r ∷ without rs id) (without rs id)) n ≡ cond (eqb n id) None (cond (eqb r.0 n) (Some r.1) (object_of rs n))) [
        | true ↦ λ b.
            object_of-without rs id n
            ∙ elim (eqb r.0 n) as (λ c. eqb r.0 n ≡ c → cond (eqb n id) None (object_of rs n) ≡ cond (eqb n id) None (cond c (Some r.1) (object_of rs n))) [
              | true ↦ λ c.
                  let same : eqb n id ≡ true = ap (λ m. eqb m id) (sym (eqb-true r.0 n c)) ∙ b in
                  ap (λ d. cond d None (object_of rs n)) same ∙ sym (ap (λ d. cond d None (Some r.1)) same)
              | false ↦ λ c. refl
            ] refl
        | false ↦ λ b.
            object_of-cons r.0 r.1 (without rs id) n
            ∙ elim (eqb r.0 n) as (λ c. eqb r.0 n ≡ c → cond c (Some r.1) (object_of (without rs id) n) ≡ cond (eqb n id) None (cond c (Some r.1) (object_of rs n))) [
              | true ↦ λ c. sym (ap (λ d. cond d None (Some r.1)) (ap (λ m. eqb m id) (sym (eqb-true r.0 n c)) ∙ b))
              | false ↦ λ c. object_of-without rs id n
            ] refl
      ] refl
      ∙ ap (cond (eqb n id) None) (sym (object_of-cons r.0 r.1 rs n))

  -- a look-up after an object is added at the end
  pub object_of-push : (rs : List (ℕ × T)) (id n : ℕ) (v : T) → object_of (rs ++ (id, v) ∷ []) n ≡ cond (is_some (object_of rs n)) (object_of rs n) (cond (eqb id n) (Some v) None)
  object_of-push [] id n v = object_of-cons id v [] n
  object_of-push (r ∷ rs) id n v =
      object_of-cons r.0 r.1 (rs ++ (id, v) ∷ []) n
      ∙ elim (eqb r.0 n) as (λ b. cond b (Some r.1) (object_of (rs ++ (id, v) ∷ []) n) ≡ cond (is_some (cond b (Some r.1) (object_of rs n))) (cond b (Some r.1) (object_of rs n)) (cond (eqb id n) (Some v) None)) [
        | true ↦ refl
        | false ↦ object_of-push rs id n v
      ]
      ∙ ap (λ o. cond (is_some o) o (cond (eqb id n) (Some v) None)) (sym (object_of-cons r.0 r.1 rs n))

  -- a property of each row, and of the overwritten one, holds after a write
  pub All-write : (P : ℕ × T → Type 0) (rs : List (ℕ × T)) (id : ℕ) (y : T) → All P rs → ((r : ℕ × T) → P r → P (r.0, y)) → All P (with_object rs id y)
  All-write P [] id y all keeps = all
  All-write P (r ∷ rs) id y all keeps =
      All-cons P (cond (eqb r.0 id) (r.0, y) r) (with_object rs id y)
      (elim (eqb r.0 id) as (λ b. P (cond b (r.0, y) r)) [ true ↦ keeps r (All-head P r rs all) | false ↦ All-head P r rs all ])
      (All-write P rs id y (All-tail P r rs all) keeps)

  -- a property of each row holds for the found one
  pub found_has : (P : T → Type 0) (rs : List (ℕ × T)) (n : ℕ) (v : T) → All (λ r. P r.1) rs → object_of rs n ≡ Some v → P v
  found_has P rs n v all e =
      elim (of_id row_id rs n) as (λ o. of_id row_id rs n ≡ o → option_map row_object o ≡ Some v → P v) [
        | None ↦ λ q f. absurd (cc)
        | Some r ↦ λ q f. let same : r.1 ≡ v = cc in subst P same (All-contains (λ x. P x.1) rs r all (found_at row_id rs n r q))
      ] refl e

  -- the id of a found object is below the next one
  pub found_below : (rs : List (ℕ × T)) (next n : ℕ) (v : T) → IdsBelow next rs → object_of rs n ≡ Some v → n < next
  found_below rs next n v all e =
      elim (of_id row_id rs n) as (λ o. of_id row_id rs n ≡ o → option_map row_object o ≡ Some v → n < next) [
        | None ↦ λ q f. absurd (cc)
        | Some r ↦ λ q f. subst (λ m. m < next) (found_id row_id rs n r q) (All-contains (λ x. x.0 < next) rs r all (found_at row_id rs n r q))
      ] refl e
