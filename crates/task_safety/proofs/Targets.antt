-- The task that a call names, and that it is live.
use Rattle.std.proofs.Common.{◌≡◌, ℕ, ◌-◌, ◌<◌, Bool, true, false, cond, ◌&&◌, eqb, ltb, leb, List, map, None, Some, IsSome, refl, sym, ap, ◌∙◌, subst, arith}
use Rattle.std.specs.Option.{option_map}
use Rattle.std.proofs.lemmas.Bool.{eqb-true, eqb-false}
use Rattle.std.proofs.lemmas.Option.{same_Some}
use Rattle.task_block.specs.declared.task.Task.{Task}
use Rattle.id_table.proofs.Records.{found_id}
use Rattle.wind_core.specs.State.{KernState, Lives, task_id, task_of}
use Rattle.wind_core.specs.Orders.{waiters}
use Rattle.wind_core.specs.Moves.{live_id, set_again, set_safe}
use Rattle.wind_core.specs.Releases.{release_all}
use Rattle.wind_core.proofs.Ids.{ids, ids-change, lives_by}
use Rattle.wind_core.proofs.Unwritten.{map-change, map-releases}
use Rattle.wind_base.specs.declared.errno.Errno.TheVariants as errors
use Rattle.task_safety.specs.declared.deleting.Deed.{Deed}
use Rattle.task_safety.specs.declared.deleting.Deed.TheVariants.{Refuses, EndsItself, Removes, Awaits}
use Rattle.task_safety.specs.Safety.{safe_of, deletion, lessen}
use Rattle.task_safety.specs.Deletion.{again_of, target_of, deed_on, deed_at, deed_of}

-- ---- live tasks stay live
-- the end of a safe section leaves each field of a task that it doesn't write
pub map-lessen : {A : Type 0} (field : Task → A) → ((n : ℕ) (t : Task) → field (record t { since = n }) ≡ field t) → ((t : Task) → field (record t { wait = None; wake = None }) ≡ field t)
    → ((n : ℕ) (t : Task) → field (record t { safe = n }) ≡ field t) → (s : KernState) (who n : ℕ)
    → map field (lessen s who n).tasks ≡ map field s.tasks
map-lessen field renews ends writes s who n =
    let count : ℕ = safe_of (task_of s.tasks who) in
    let less : KernState = set_safe s who (count - n) in
    let kept : map field less.tasks ≡ map field s.tasks = map-change field s.tasks who (λ t. record t { safe = count - n }) (writes (count - n)) in
    elim (ltb 0 count && leb count n) as (λ b. map field (cond b (release_all less (deletion who)) less).tasks ≡ map field s.tasks) [
      | true ↦ map-releases field renews ends less (waiters less.tasks (deletion who)) ∙ kept
      | false ↦ kept
    ]

pub ids-lessen : (s : KernState) (who n : ℕ) → ids (lessen s who n).tasks ≡ ids s.tasks
ids-lessen = map-lessen task_id (λ n t. refl) (λ t. refl) (λ n t. refl)

pub again_lives : (s : KernState) (who id : ℕ) (on : Bool) → Lives s id → Lives (set_again s who on) id
again_lives s who id on lives = lives_by (set_again s who on).tasks s.tasks id (ids-change s.tasks who (λ t. record t { again = on }) (λ t. refl)) lives

pub lessen_lives : (s : KernState) (who n id : ℕ) → Lives s id → Lives (lessen s who n) id
lessen_lives s who n id lives = lives_by (lessen s who n).tasks s.tasks id (ids-lessen s who n) lives

-- ---- the target
pub named : (ts : List Task) (n id : ℕ) → Some id ≡ live_id ts n → task_of ts id ≡ target_of ts n
named ts n id e =
    elim (eqb n 0) as (λ b. Some id ≡ cond b None (option_map task_id (task_of ts n)) → task_of ts id ≡ cond b None (task_of ts n)) [
      | true ↦ λ q. absurd (cc)
      | false ↦ λ q.
          elim (task_of ts n) as (λ o. task_of ts n ≡ o → Some id ≡ option_map task_id o → task_of ts id ≡ o) [
            | None ↦ λ o r. absurd (cc)
            | Some t ↦ λ o r. ap (task_of ts) (same_Some id t.id r ∙ found_id task_id ts n t o) ∙ o
          ] refl q
    ] e

-- the target of a deed is the live task with its number
record IsTarget (ts : List Task) (n : ℕ) (t : Task) : Type 0 where
  found : task_of ts n ≡ Some t
  id : t.id ≡ n

target_is : (ts : List Task) (n : ℕ) (t : Task) → target_of ts n ≡ Some t → IsTarget ts n t
target_is ts n t e =
    elim (eqb n 0) as (λ b. cond b None (task_of ts n) ≡ Some t → IsTarget ts n t) [
      | true ↦ λ q. absurd (cc)
      | false ↦ λ q. record { found = q; id = found_id task_id ts n t q }
    ] e

-- what a deed says about the task that it names
abbrev pub Says : List Task → ℕ → ℕ → Deed → Type 0
Says ts caller n (Refuses e) = Unit {0}
Says ts caller n (EndsItself count) = (n ≡ caller) × (count ≡ safe_of (task_of ts caller))
Says ts caller n (Removes who) = (who ≡ n) × IsSome (task_of ts who) × (safe_of (task_of ts who) ≡ 0) × (who ≡ caller → ⊥)
Says ts caller n (Awaits who) = (who ≡ n) × IsSome (task_of ts who) × (0 < safe_of (task_of ts who)) × (who ≡ caller → ⊥)

says_on : (ts : List Task) (caller n : ℕ) (t : Task) → IsTarget ts n t → Says ts caller n (deed_on caller t)
says_on ts caller n t is =
    let here : task_of ts t.id ≡ Some t = ap (task_of ts) is.id ∙ is.found in
    elim (eqb t.id caller) as (λ b. eqb t.id caller ≡ b → Says ts caller n (cond b (EndsItself t.safe) (cond (eqb t.safe 0) (Removes t.id) (Awaits t.id)))) [
      | true ↦ λ b. let own = eqb-true t.id caller b in (sym is.id ∙ own, sym (ap (λ i. safe_of (task_of ts i)) (sym own) ∙ ap safe_of here))
      | false ↦ λ b.
          elim (eqb t.safe 0) as (λ z. eqb t.safe 0 ≡ z → Says ts caller n (cond z (Removes t.id) (Awaits t.id))) [
            | true ↦ λ z. (is.id, subst (λ o. IsSome o) (sym here) refl, ap safe_of here ∙ eqb-true t.safe 0 z, eqb-false t.id caller b)
            | false ↦ λ z. (is.id, subst (λ o. IsSome o) (sym here) refl, (let some = eqb-false t.safe 0 z in let same = ap safe_of here in omega arith), eqb-false t.id caller b)
          ] refl
    ] refl

pub deed_says : (ts : List Task) (caller n : ℕ) → Says ts caller n (deed_of ts caller n)
deed_says ts caller n =
    elim (eqb n 1) as (λ b. Says ts caller n (cond b (Refuses errors.InvalidOperation) (deed_at caller (again_of (task_of ts caller)) (target_of ts n)))) [
      | true ↦ tt
      | false ↦
          elim (target_of ts n) as (λ o. target_of ts n ≡ o → Says ts caller n (deed_at caller (again_of (task_of ts caller)) o)) [
            | None ↦ λ e. tt
            | Some t ↦ λ e. says_on ts caller n t (target_is ts n t e)
          ] refl
    ]

pub says : (ts : List Task) (caller n : ℕ) (d e : Deed) → d ≡ deed_of ts caller n → d ≡ e → Says ts caller n e
says ts caller n d e is same = subst (Says ts caller n) (sym is ∙ same) (deed_says ts caller n)
