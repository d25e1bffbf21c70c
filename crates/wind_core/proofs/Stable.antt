-- A property of every task, which each move keeps for the task that it changes, holds after the move.
use Rattle.std.proofs.Common.{ℕ, ◌+◌, ◌<◌, true, false, cond, eqb, leb, List, [], ◌∷◌, length, get_or, Option, None, Some, is_some, sym, subst, arith}
use Rattle.std.specs.List.{All, fold}
use Rattle.std.proofs.lemmas.List.{length-map, get_or-map}
use Rattle.wind_base.specs.declared.errno.Errno.{Errno}
use Rattle.task_block.specs.declared.task.Task.{Task}
use Rattle.task_block.specs.Standing.{is_ready}
use Rattle.id_table.specs.Records.{change}
use Rattle.wind_core.specs.State.{KernState, task_id, task_of}
use Rattle.wind_core.specs.Orders.{running, due}
use Rattle.wind_core.specs.Moves.{renewed, settled, renew_task, move_found, move_task, answered}
use Rattle.wind_core.specs.Tick.{slice_counted, count_found_slice, count_slice_of, count_slice, late_answer, late_errno, time_out, tick_counted, tick}

module _ (P : Task → Type 0) where
  pub All-change : (ts : List Task) (who : ℕ) (f : Task → Task) → ((t : Task) → P t → P (f t)) → All P ts → All P (change task_id ts who f)
  All-change ts who f keeps all k d h =
      let g : Task → Task = λ t. cond (eqb t.id who) (f t) t in
      let within : k < length ts = omega (arith, length-map ts g) in
      subst P (sym (get_or-map g ts k d d within))
      (elim (eqb (get_or ts k d).id who) as (λ b. P (cond b (f (get_or ts k d)) (get_or ts k d))) [
        | true ↦ keeps (get_or ts k d) (all k d within)
        | false ↦ all k d within
      ])

  -- whatever order number a task is given
  module _ (renews : (since : ℕ) (t : Task) → P t → P (renewed since t)) where
    settles : (since : ℕ) (t : Task) → P t → P (settled since t)
    settles since t p = elim (is_ready t) as (λ b. P (cond b (renewed since t) t)) [ true ↦ renews since t p | false ↦ p ]

    pub renew_task-stable : (s : KernState) (who : ℕ) (f : Task → Task) → ((t : Task) → P t → P (f t)) → All P s.tasks → All P (renew_task s who f).tasks
    renew_task-stable s who f keeps all = All-change s.tasks who (λ t. renewed s.next_since (f t)) (λ t p. renews s.next_since (f t) (keeps t p)) all

    pub move_task-stable : (s : KernState) (who : ℕ) (f : Task → Task) → ((t : Task) → P t → P (f t)) → All P s.tasks → All P (move_task s who f).tasks
    move_task-stable s who f keeps all =
        elim (task_of s.tasks who) as (λ o. All P (move_found s who f o).tasks) [
          | None ↦ all
          | Some t ↦ All-change s.tasks who (λ u. settled s.next_since (f u)) (λ u p. settles s.next_since (f u) (keeps u p)) all
        ]

    -- a tick: whatever the result of a wait, and however many ticks of a slice are used
    module _ (answers : (answer : ℕ) (errno : Option Errno) (t : Task) → P t → P (answered answer errno t)) (turns : (n : ℕ) (t : Task) → P t → P (record t { turns = n })) where
      slice_counted-stable : (slice since : ℕ) (t : Task) → P t → P (slice_counted slice since t)
      slice_counted-stable slice since t p =
          elim (leb slice (t.turns + 1)) as (λ b. P (cond b (renewed since (record t { turns = 0 })) (record t { turns = t.turns + 1 }))) [
            | true ↦ renews since (record t { turns = 0 }) (turns 0 t p)
            | false ↦ turns (t.turns + 1) t p
          ]

      count_slice_of-stable : (s : KernState) (o : Option Task) → All P s.tasks → All P (count_slice_of s o).tasks
      count_slice_of-stable s None all = all
      count_slice_of-stable s (Some t) all =
          elim (eqb t.locks 0) as (λ b. All P (cond b (count_found_slice s t) s).tasks) [
            | true ↦ All-change s.tasks t.id (slice_counted s.slice s.next_since) (slice_counted-stable s.slice s.next_since) all
            | false ↦ all
          ]

      count_slice-stable : (s : KernState) → All P s.tasks → All P (count_slice s).tasks
      count_slice-stable s all = elim (eqb s.slice 0) as (λ b. All P (cond b s (count_slice_of s (running s))).tasks) [ true ↦ all | false ↦ count_slice_of-stable s (running s) all ]

      time_outs-stable : (s : KernState) (ts : List Task) → All P s.tasks → All P (fold time_out s ts).tasks
      time_outs-stable s [] all = all
      time_outs-stable s (t ∷ ts) all =
          time_outs-stable (time_out s t) ts
          (move_task-stable s t.id (answered (late_answer (is_some t.wait)) (late_errno (is_some t.wait))) (answers (late_answer (is_some t.wait)) (late_errno (is_some t.wait))) all)

      pub tick-stable : (s : KernState) → All P s.tasks → All P (tick s).tasks
      tick-stable s all =
          time_outs-stable (count_slice (tick_counted s)) (due (count_slice (tick_counted s)).tasks (s.tick + 1)) (count_slice-stable (tick_counted s) all)
