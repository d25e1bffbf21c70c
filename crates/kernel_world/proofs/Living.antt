-- The tasks of a call live on.
use Rattle.std.proofs.Common.{◌≡◌, ℕ, true, false, not, ◌&&◌, cond, eqb, List, None, Some, IsSome, IfSome, is_none, refl, sym, subst}
use Rattle.std.specs.Option.{option_map}
use Rattle.task_block.specs.declared.task.Task.{Task}
use Rattle.task_block.specs.Standing.{is_ready}
use Rattle.id_table.proofs.Records.{found_id}
use Rattle.wind_core.specs.State.{KernState, task_id, task_of}
use Rattle.wind_core.specs.Moves.{live_id, past_gate, leave_gate, set_errno}
use Rattle.kernel_world.specs.State.{WorldState}
use Rattle.kernel_world.specs.Objects.{IsFree, IsReady}
use Rattle.kernel_world.specs.Actors.{Acts}
use Rattle.kernel_world.specs.Replies.{left_gate, with_errno}
use Rattle.kernel_world.specs.declared.actor.Actor.{Actor}
use Rattle.kernel_world.specs.declared.actor.Actor.TheVariants.{Task as ATask, Interrupt}
use Rattle.wind_core.proofs.Ids.{ids-change, lives_by}

-- the id of a live task
pub live_found : (ts : List Task) (n : ℕ) → IfSome (live_id ts n) (λ t. IsSome (task_of ts t))
live_found ts n =
    elim (eqb n 0) as (λ b. IfSome (cond b None (option_map task_id (task_of ts n))) (λ t. IsSome (task_of ts t))) [
      | true ↦ tt
      | false ↦
          elim (task_of ts n) as (λ o. task_of ts n ≡ o → IfSome (option_map task_id o) (λ t. IsSome (task_of ts t))) [
            | None ↦ λ e. tt
            | Some x ↦ λ e. subst (λ m. IsSome (task_of ts m)) (sym (found_id task_id ts n x e)) (subst (λ o. IsSome o) (sym e) refl)
          ] refl
    ]

-- a ready task waits for nothing
ready_waits : (t : Task) → is_ready t ≡ true → t.wait ≡ None
ready_waits t ready =
    elim t.wait as (λ o. (is_none o && (is_none t.wake && not t.suspended)) ≡ true → o ≡ None) [ None ↦ λ e. refl | Some p ↦ λ e. absurd (cc) ] ready

pub ready_free : (k : KernState) (who : ℕ) → IsReady k who → IsFree k who
ready_free k who ready =
    elim (task_of k.tasks who) as (λ o. IfSome o (λ t. is_ready t ≡ true) → IfSome o (λ t. t.wait ≡ None)) [ None ↦ λ h. tt | Some t ↦ ready_waits t ] ready

-- a caller that goes on after its gate, or whose error number is set, lives on
pub left_acts : (w : WorldState) (a : Actor) → Acts w.kern a → Acts (left_gate w a).kern a
left_acts w (ATask who) live = lives_by (leave_gate w.kern who).tasks w.kern.tasks who (ids-change w.kern.tasks who past_gate (λ t. refl)) live
left_acts w Interrupt live = live

pub errno_acts : (w : WorldState) (a : Actor) (e : ℕ) → Acts w.kern a → Acts (with_errno w a e).kern a
errno_acts w (ATask who) e live = lives_by (set_errno w.kern who e).tasks w.kern.tasks who (ids-change w.kern.tasks who (λ t. record t { errno = e }) (λ t. refl)) live
errno_acts w Interrupt e live = live
