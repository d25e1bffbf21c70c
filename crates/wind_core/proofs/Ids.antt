-- Which tasks live: a move keeps their ids.
use Rattle.std.proofs.Common.{◌≡◌, ℕ, ◌+◌, ◌≤◌, true, false, cond, eqb, List, [], ◌∷◌, map, length, Some, IsSome, is_some, refl, sym, ap, ◌∙◌, subst, arith}
use Rattle.std.specs.List.{fold}
use Rattle.std.proofs.lemmas.List.{length-map}
use Rattle.task_block.specs.declared.task.Task.{Task}
use Rattle.id_table.specs.Records.{change}
use Rattle.wind_core.specs.State.{KernState, task_id, task_of}
use Rattle.wind_core.specs.Orders.{due}
use Rattle.wind_core.specs.Moves.{move_task}
use Rattle.wind_core.specs.Tick.{count_slice, late_answer, late_errno, time_out, tick_counted, tick}
use Rattle.wind_core.proofs.Unwritten.{map-change, map-move, map-count_slice, map-tick}
use Rattle.wind_core.proofs.Ticks.{since-count_slice}
use Rattle.wind_core.proofs.Waking.{since-end_wait, length-due}

-- the ids of tasks
abbrev pub ids : List Task → List ℕ
ids ts = map task_id ts

pub ids-change : (ts : List Task) (who : ℕ) (f : Task → Task) → ((t : Task) → (f t).id ≡ t.id) → ids (change task_id ts who f) ≡ ids ts
ids-change = map-change task_id

pub ids-move : (s : KernState) (who : ℕ) (f : Task → Task) → ((t : Task) → (f t).id ≡ t.id) → ids (move_task s who f).tasks ≡ ids s.tasks
ids-move = map-move task_id (λ n t. refl)

ids-count_slice : (s : KernState) → ids (count_slice s).tasks ≡ ids s.tasks
ids-count_slice = map-count_slice task_id (λ n t. refl) (λ answer errno t. refl) (λ n t. refl)

pub ids-tick : (s : KernState) → ids (tick s).tasks ≡ ids s.tasks
ids-tick = map-tick task_id (λ n t. refl) (λ answer errno t. refl) (λ n t. refl)

abbrev head_of : ℕ → List ℕ → ℕ
head_of d [] = d
head_of d (x ∷ xs) = x

abbrev tail_of : List ℕ → List ℕ
tail_of [] = []
tail_of (x ∷ xs) = xs

-- a task that is live in one list is live in another with the same ids
pub lives_by : (ts us : List Task) (who : ℕ) → ids ts ≡ ids us → IsSome (task_of us who) → IsSome (task_of ts who)
lives_by [] [] who e h = h
lives_by [] (u ∷ us) who e h = absurd (cc)
lives_by (t ∷ ts) [] who e h = absurd (cc)
lives_by (t ∷ ts) (u ∷ us) who e h =
    let heads : u.id ≡ t.id = sym (ap (head_of 0) e) in
    let rest : ids ts ≡ ids us = ap tail_of e in
    elim (eqb t.id who) as (λ b. eqb t.id who ≡ b → IsSome (cond b (Some t) (task_of ts who))) [
      | true ↦ λ b. refl
      | false ↦ λ b. lives_by ts us who rest (subst (λ c. IsSome (cond c (Some u) (task_of us who))) (ap (λ n. eqb n who) heads ∙ b) h)
    ] refl

-- the number of order numbers that a tick gives
since-time_outs : (s : KernState) (ts : List Task) → (fold time_out s ts).next_since ≤ s.next_since + length ts
since-time_outs s [] = omega arith
since-time_outs s (t ∷ ts) =
    omega (arith, since-time_outs (time_out s t) ts, since-end_wait s t.id (late_answer (is_some t.wait)) (late_errno (is_some t.wait)))

-- lists with the same ids have the same length
length_by : (ts us : List Task) → ids ts ≡ ids us → length ts ≡ length us
length_by ts us e = sym (length-map ts task_id) ∙ ap length e ∙ length-map us task_id

pub since-tick : (s : KernState) → (tick s).next_since ≤ s.next_since + 1 + length s.tasks
since-tick s =
    let r = count_slice (tick_counted s) in
    omega (arith, since-time_outs r (due r.tasks (s.tick + 1)), length-due r.tasks (s.tick + 1), since-count_slice (tick_counted s), length_by r.tasks s.tasks (ids-count_slice (tick_counted s)))
