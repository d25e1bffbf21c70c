-- A caller that takes or gives a mutex, or calls on a queue, lives: one that doesn't has 0 in each register, and
-- neither a mutex nor a queue has number 0.
use Rattle.std.proofs.Common.{◌≡◌, ◌<◌, true, None, Some, IsSome, is_some, refl, arith}
use Rattle.std.specs.Prelude.{slice_index, unwrap_or}
use Rattle.std.specs.Option.{option_map}
use Rattle.id_table.specs.Rows.{object_of}
use Rattle.wind_core.specs.State.{IsKern, task_of}
use Rattle.kernel_world.specs.Objects.{KeepsObjects}
use Rattle.kernel_world.specs.State.{WorldState}
use Rattle.kernel_world.specs.Actors.{Acts, caller_words}
use Rattle.kernel_world.specs.Starting.{no_regs}
use Rattle.call_rows.specs.SemRows.{is_mutex}
use Rattle.kernel_world.specs.Replies.{left_gate}
use Rattle.kernel_world.specs.declared.actor.Actor.{Actor}
use Rattle.kernel_world.specs.declared.actor.Actor.TheVariants.{Task, Interrupt}
use Rattle.kernel_world.proofs.Apart.{by_id}
use Rattle.call_rows.proofs.ObjectRows.{zero_none}

-- after its gate, with the words that it handed in there
pub mutex_callers : (w : WorldState) (a : Actor) → IsKern w.kern → KeepsObjects w.board w.kern w.objects → is_mutex (left_gate w a).objects (slice_index (caller_words w a) 3) ≡ true → Acts w.kern a
mutex_callers w (Task who) is kept there =
    let none = zero_none w.kern w.objects is kept in
    elim (task_of w.kern.tasks who) as (λ o. is_mutex w.objects (slice_index (unwrap_or (option_map (λ t. t.regs) o) no_regs).gpr 3) ≡ true → IsSome o) [
      | None ↦ λ e. absurd (cc)
      | Some t ↦ λ e. refl
    ] there
mutex_callers w Interrupt is kept there = tt

-- a caller that calls on a live queue lives too: no queue has number 0
pub queue_callers : (w : WorldState) (a : Actor) → KeepsObjects w.board w.kern w.objects → is_some (object_of (left_gate w a).objects.queues.queues (slice_index (caller_words w a) 3)) ≡ true → Acts w.kern a
queue_callers w (Task who) kept there =
    elim (task_of w.kern.tasks who) as (λ o. is_some (object_of w.objects.queues.queues (slice_index (unwrap_or (option_map (λ t. t.regs) o) no_regs).gpr 3)) ≡ true → IsSome o) [
      | None ↦ λ e. let some : 0 < 0 = by_id (λ n. 0 < n) w.objects.queues.queues 0 kept.queues_ranged e in absurd (omega (arith, some))
      | Some t ↦ λ e. refl
    ] there
queue_callers w Interrupt kept there = tt
