-- The owner of a mutex in a list of mutexes, after another one is made, written or taken out.
use Rattle.std.proofs.Common.{◌≡◌, ℕ, true, false, cond, eqb, List, [], ◌∷◌, ◌++◌, Option, None, Some, is_some, refl, sym, ap, ◌∙◌}
use Rattle.std.specs.Option.{option_map}
use Rattle.std.proofs.lemmas.Bool.{ne_eqb}
use Rattle.id_table.specs.Rows.{object_of, with_object, without}
use Rattle.id_table.proofs.Lookups.{object_of-push, object_of-write, object_of-without}
use Rattle.inheritance.specs.declared.mutex.Mutex.{Mutex}
use Rattle.inheritance.specs.Mutexes.{owner_in as owner_of}

-- the owner of the mutex with this id
abbrev pub owner_among : ℕ → List (ℕ × Mutex) → Option ℕ
owner_among id ms = owner_of (object_of ms id)

same_found : (o : Option Mutex) → option_map (λ x. x) o ≡ o
same_found None = refl
same_found (Some m) = refl

module _ (id : ℕ) (ms : List (ℕ × Mutex)) (n : ℕ) where
  pub written : (m : Mutex) → (n ≡ id → ⊥) → owner_among id (with_object ms n m) ≡ owner_among id ms
  written m other =
      ap owner_of (object_of-write ms n id m
      ∙ ap (λ b. option_map (λ x. cond b m x) (object_of ms id)) (ne_eqb id n (λ q. other (sym q)))
      ∙ same_found (object_of ms id))

  pub taken_out : (n ≡ id → ⊥) → owner_among id (without ms n) ≡ owner_among id ms
  taken_out other =
      ap owner_of (object_of-without ms n id ∙ ap (λ b. cond b None (object_of ms id)) (ne_eqb id n (λ q. other (sym q))))

  -- a new mutex has no owner
  pub made : (m : Mutex) → m.owner ≡ None → owner_among id (ms ++ (n, m) ∷ []) ≡ owner_among id ms
  made m none =
      ap owner_of (object_of-push ms n id m)
      ∙ elim (object_of ms id) as (λ o. owner_of (cond (is_some o) o (cond (eqb n id) (Some m) None)) ≡ owner_of o) [
        | None ↦ (elim (eqb n id) as (λ b. owner_of (cond b (Some m) None) ≡ None) [ true ↦ none | false ↦ refl ])
        | Some x ↦ refl
      ]
