-- What a take and a give do, and what is then known of the mutex.
use Rattle.std.proofs.Common.{◌≡◌, ℕ, ◌<◌, true, false, cond, eqb, ltb, List, None, Some, refl, ap, ◌∙◌, arith}
use Rattle.std.proofs.lemmas.Bool.{eqb-true, eqb-false, ltb-true}
use Rattle.wind_base.specs.declared.errno.Errno.TheVariants as errors
use Rattle.id_table.specs.Rows.{object_of}
use Rattle.inheritance.specs.declared.mutex.Mutex.{Mutex}
use Rattle.inheritance.specs.Mutexes.{is_id}
use Rattle.sem_mutex.specs.Calls.{TakeDeed, declined, taken, retaken, starved, take_from, take_deed, GiveDeed, denied, lowered, given_up, give_deed}

-- a mutex that is taken is free, one that is taken once more is the task's, and one that is waited for is owned; the wait takes time
abbrev pub TakeIs : List (ℕ × Mutex) → ℕ → ℕ → ℕ → TakeDeed → Type 0
TakeIs ms who id n (declined e) = Unit {0}
TakeIs ms who id n (taken m) = (object_of ms id ≡ Some m) × (m.owner ≡ None)
TakeIs ms who id n (retaken m) = (object_of ms id ≡ Some m) × (m.owner ≡ Some who)
TakeIs ms who id n (starved m) = (x : ℕ) × (object_of ms id ≡ Some m) × (m.owner ≡ Some x) × (x ≡ who → ⊥) × (0 < n)

pub take_is : (ms : List (ℕ × Mutex)) (who id n : ℕ) → TakeIs ms who id n (take_deed who n (object_of ms id))
take_is ms who id n =
    elim (object_of ms id) as (λ o. object_of ms id ≡ o → TakeIs ms who id n (take_deed who n o)) [
      | None ↦ λ e. tt
      | Some m ↦ λ e.
          elim m.owner as (λ w. m.owner ≡ w → TakeIs ms who id n (take_from who n m w)) [
            | None ↦ λ w. (e, w)
            | Some x ↦ λ w.
                elim (eqb x who) as (λ b. eqb x who ≡ b → TakeIs ms who id n (cond b (retaken m) (cond (eqb n 0) (declined errors.ObjUnavailable) (starved m)))) [
                  | true ↦ λ b. (e, w ∙ ap Some (eqb-true x who b))
                  | false ↦ λ b.
                      elim (eqb n 0) as (λ c. eqb n 0 ≡ c → TakeIs ms who id n (cond c (declined errors.ObjUnavailable) (starved m))) [
                        | true ↦ λ c. tt
                        | false ↦ λ c. let some = eqb-false n 0 c in (x, e, w, eqb-false x who b, omega arith)
                      ] refl
                ] refl
          ] refl
    ] refl

-- only the owner gives it; it is its last give if it has taken it once
abbrev pub GiveIs : List (ℕ × Mutex) → ℕ → ℕ → GiveDeed → Type 0
GiveIs ms who id (denied e) = Unit {0}
GiveIs ms who id (lowered m) = (object_of ms id ≡ Some m) × (m.owner ≡ Some who) × (1 < m.depth)
GiveIs ms who id (given_up m) = (object_of ms id ≡ Some m) × (m.owner ≡ Some who)

pub give_is : (ms : List (ℕ × Mutex)) (who id : ℕ) → GiveIs ms who id (give_deed who (object_of ms id))
give_is ms who id =
    elim (object_of ms id) as (λ o. object_of ms id ≡ o → GiveIs ms who id (give_deed who o)) [
      | None ↦ λ e. tt
      | Some m ↦ λ e.
          elim m.owner as (λ w. m.owner ≡ w → GiveIs ms who id (cond (is_id who w) (cond (ltb 1 m.depth) (lowered m) (given_up m)) (denied errors.InvalidOperation))) [
            | None ↦ λ w. tt
            | Some x ↦ λ w.
                elim (eqb x who) as (λ b. eqb x who ≡ b → GiveIs ms who id (cond b (cond (ltb 1 m.depth) (lowered m) (given_up m)) (denied errors.InvalidOperation))) [
                  | true ↦ λ b.
                      let own : m.owner ≡ Some who = w ∙ ap Some (eqb-true x who b) in
                      elim (ltb 1 m.depth) as (λ c. ltb 1 m.depth ≡ c → GiveIs ms who id (cond c (lowered m) (given_up m))) [
                        | true ↦ λ c. (e, own, ltb-true 1 m.depth c)
                        | false ↦ λ c. (e, own)
                      ] refl
                  | false ↦ λ b. tt
                ] refl
          ] refl
    ] refl
