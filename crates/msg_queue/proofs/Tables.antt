-- Objects by id, after one is overwritten, added or removed.
use Rattle.std.proofs.Common.{◌≡◌, ◌<◌, ◌≤◌, ℕ, true, false, not, cond, eqb, is_some, List, [], ◌∷◌, ◌++◌, None, Some, refl, sym, ap, ◌∙◌, subst, arith}
use Rattle.std.specs.List.{AllPairs, filter}
use Rattle.std.specs.Option.{option_map}
use Rattle.std.proofs.lemmas.Bool.{ne_eqb, eq-eqb}
use Rattle.std.proofs.lemmas.List.Kept.{AllPairs-filter}
use Rattle.id_table.specs.Rows.{object_of, with_object, without, ids, Rises, IdsBelow}
use Rattle.id_table.proofs.Lookups.{object_of-write, object_of-without, object_of-push, found_below}

module _ {T : Type 0} where
  pub written_same : (rs : List (ℕ × T)) (id : ℕ) (x y : T) → object_of rs id ≡ Some x → object_of (with_object rs id y) id ≡ Some y
  written_same rs id x y e = object_of-write rs id id y ∙ ap (option_map (λ z. cond (eqb id id) y z)) e ∙ ap (λ b. Some (cond b y x)) (eq-eqb id id refl)

  pub written_other : (rs : List (ℕ × T)) (id q : ℕ) (y : T) → (id ≡ q → ⊥) → object_of (with_object rs id y) q ≡ object_of rs q
  written_other rs id q y ne =
      object_of-write rs id q y ∙ ap (λ b. option_map (λ z. cond b y z) (object_of rs q)) (ne_eqb q id (λ e. ne (sym e)))
      ∙ elim (object_of rs q) as (λ o. option_map (λ z. z) o ≡ o) [ None ↦ refl | Some z ↦ refl ]

  pub taken_same : (rs : List (ℕ × T)) (id : ℕ) → object_of (without rs id) id ≡ None
  taken_same rs id = object_of-without rs id id ∙ ap (λ b. cond b None (object_of rs id)) (eq-eqb id id refl)

  pub taken_other : (rs : List (ℕ × T)) (id q : ℕ) → (id ≡ q → ⊥) → object_of (without rs id) q ≡ object_of rs q
  taken_other rs id q ne = object_of-without rs id q ∙ ap (λ b. cond b None (object_of rs q)) (ne_eqb q id (λ e. ne (sym e)))

  pub added_other : (rs : List (ℕ × T)) (id q : ℕ) (y : T) → (id ≡ q → ⊥) → object_of (rs ++ (id, y) ∷ []) q ≡ object_of rs q
  added_other rs id q y ne =
      object_of-push rs id q y ∙ ap (λ b. cond (is_some (object_of rs q)) (object_of rs q) (cond b (Some y) None)) (ne_eqb id q ne)
      ∙ elim (object_of rs q) as (λ o. cond (is_some o) o None ≡ o) [ None ↦ refl | Some z ↦ refl ]

  pub added_same : (rs : List (ℕ × T)) (id : ℕ) (y : T) → object_of rs id ≡ None → object_of (rs ++ (id, y) ∷ []) id ≡ Some y
  added_same rs id y e =
      object_of-push rs id id y ∙ ap (λ o. cond (is_some o) o (cond (eqb id id) (Some y) None)) e ∙ ap (λ b. cond b (Some y) None) (eq-eqb id id refl)

  -- an id that isn't below the next one isn't live
  pub not_live : (rs : List (ℕ × T)) (next q : ℕ) → IdsBelow next rs → next ≤ q → object_of rs q ≡ None
  not_live rs next q below h =
      elim (object_of rs q) as (λ o. object_of rs q ≡ o → o ≡ None) [
        | None ↦ λ e. refl
        | Some y ↦ λ e. absurd (omega (arith, h, found_below rs next q y below e))
      ] refl

  -- ---- the ids
  ids-with_object : (rs : List (ℕ × T)) (id : ℕ) (y : T) → ids (with_object rs id y) ≡ ids rs
  ids-with_object [] id y = refl
  ids-with_object (r ∷ rs) id y =
      elim (eqb r.0 id) as (λ b. (cond b (r.0, y) r).0 ∷ ids (with_object rs id y) ≡ r.0 ∷ ids rs) [
        | true ↦ ap (λ ns. r.0 ∷ ns) (ids-with_object rs id y)
        | false ↦ ap (λ ns. r.0 ∷ ns) (ids-with_object rs id y)
      ]

  pub rises-written : (rs : List (ℕ × T)) (id : ℕ) (y : T) → Rises rs → Rises (with_object rs id y)
  rises-written rs id y up = subst (λ ns. AllPairs (λ i j. i < j) ns) (sym (ids-with_object rs id y)) up

  ids-without : (rs : List (ℕ × T)) (id : ℕ) → ids (without rs id) ≡ filter (λ n. not (eqb n id)) (ids rs)
  ids-without [] id = refl
  ids-without (r ∷ rs) id =
      elim (not (eqb r.0 id)) as (λ b. ids (cond b (r ∷ without rs id) (without rs id)) ≡ cond b (r.0 ∷ filter (λ n. not (eqb n id)) (ids rs)) (filter (λ n. not (eqb n id)) (ids rs))) [
        | true ↦ ap (λ ns. r.0 ∷ ns) (ids-without rs id)
        | false ↦ ids-without rs id
      ]

  pub rises-without : (rs : List (ℕ × T)) (id : ℕ) → Rises rs → Rises (without rs id)
  rises-without rs id up = subst (λ ns. AllPairs (λ i j. i < j) ns) (sym (ids-without rs id)) (AllPairs-filter (λ i j. i < j) (λ n. not (eqb n id)) (ids rs) up)

  -- ---- the last write counts
  pub written_twice : (rs : List (ℕ × T)) (id : ℕ) (x y : T) → with_object (with_object rs id x) id y ≡ with_object rs id y
  written_twice [] id x y = refl
  written_twice (r ∷ rs) id x y =
      elim (eqb r.0 id) as (λ b. eqb r.0 id ≡ b → cond (eqb (cond b (r.0, x) r).0 id) ((cond b (r.0, x) r).0, y) (cond b (r.0, x) r) ∷ with_object (with_object rs id x) id y ≡ cond b (r.0, y) r ∷ with_object rs id y) [
        | true ↦ λ e. ap (λ b. cond b (r.0, y) (r.0, x) ∷ with_object (with_object rs id x) id y) e ∙ ap (λ vs. (r.0, y) ∷ vs) (written_twice rs id x y)
        | false ↦ λ e. ap (λ b. cond b (r.0, y) r ∷ with_object (with_object rs id x) id y) e ∙ ap (λ vs. r ∷ vs) (written_twice rs id x y)
      ] refl
