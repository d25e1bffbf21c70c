-- What a take and a give do, and what is then known of the semaphore.
use Rattle.std.proofs.Common.{◌≡◌, ℕ, ◌<◌, true, false, cond, eqb, None, Some, refl, arith}
use Rattle.std.proofs.lemmas.Bool.{eqb-true, eqb-false}
use Rattle.wind_base.specs.declared.errno.Errno.TheVariants as errors
use Rattle.sem_plain.specs.State.{SemState}
use Rattle.sem_plain.specs.Calls.{live, TakeDeed, declined, taken, starved, take_deed, GiveDeed, denied, passed_on, counted, give_to, give_deed, next_of}

-- a semaphore that is taken has a count above 0; one that is waited for has none, and the wait takes time
abbrev pub TakeIs : SemState → ℕ → ℕ → TakeDeed → Type 0
TakeIs s id n (declined e) = Unit {0}
TakeIs s id n (taken v) = (live s id ≡ Some v) × (v.count ≡ 0 → ⊥)
TakeIs s id n (starved v) = (live s id ≡ Some v) × (v.count ≡ 0) × (0 < n)

pub take_is : (s : SemState) (id n : ℕ) → TakeIs s id n (take_deed n (live s id))
take_is s id n =
    elim (live s id) as (λ o. live s id ≡ o → TakeIs s id n (take_deed n o)) [
      | None ↦ λ e. tt
      | Some v ↦ λ e.
          elim (eqb v.count 0) as (λ b. eqb v.count 0 ≡ b → TakeIs s id n (cond b (cond (eqb n 0) (declined errors.ObjUnavailable) (starved v)) (taken v))) [
            | true ↦ λ b.
                elim (eqb n 0) as (λ c. eqb n 0 ≡ c → TakeIs s id n (cond c (declined errors.ObjUnavailable) (starved v))) [
                  | true ↦ λ c. tt
                  | false ↦ λ c. let some = eqb-false n 0 c in (e, eqb-true v.count 0 b, omega arith)
                ] refl
            | false ↦ λ b. (e, eqb-false v.count 0 b)
          ] refl
    ] refl

-- the first waiting task gets it; without one, the count rises
abbrev pub GiveIs : SemState → ℕ → GiveDeed → Type 0
GiveIs s id (denied e) = Unit {0}
GiveIs s id (passed_on t) = next_of s id ≡ Some t
GiveIs s id (counted v) = (live s id ≡ Some v) × (next_of s id ≡ None) × (v.count ≡ 4294967295 → ⊥)

pub give_is : (s : SemState) (id : ℕ) → GiveIs s id (give_deed (next_of s id) (live s id))
give_is s id =
    elim (live s id) as (λ o. live s id ≡ o → GiveIs s id (give_deed (next_of s id) o)) [
      | None ↦ λ e. tt
      | Some v ↦ λ e.
          elim (next_of s id) as (λ next. next_of s id ≡ next → GiveIs s id (give_to v next)) [
            | Some t ↦ λ some. some
            | None ↦ λ none.
                elim (eqb v.count 4294967295) as (λ b. eqb v.count 4294967295 ≡ b → GiveIs s id (cond b (denied errors.CountOver) (counted v))) [
                  | true ↦ λ b. tt
                  | false ↦ λ b. (e, none, eqb-false v.count 4294967295 b)
                ] refl
          ] refl
    ] refl
