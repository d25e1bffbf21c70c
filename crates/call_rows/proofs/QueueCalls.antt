-- What the calls on message queues ask for, and what a new queue leaves.
use Rattle.std.proofs.Common.{◌≡◌, ℕ, List, Option, None, Some, IsSome, IfSome, true, refl, sym, ap, ◌∙◌}
use Rattle.task_block.specs.declared.task.Task.{Task as TaskRecord}
use Rattle.task_block.specs.Standing.{is_ready}
use Rattle.wind_core.specs.State.{KernState, task_of}
use Rattle.msg_queue.specs.State.{QueuesState, Scene, scene}
use Rattle.msg_queue.specs.Comings.{new_queue, created, IsMade}
use Rattle.msg_queue.specs.Kept.{IsCaller}
use Rattle.kernel_world.specs.Actors.{Acts, MayCall}
use Rattle.call_rows.specs.Unless.{unless}
use Rattle.call_rows.specs.QueueRows.{row_of, create_row, task_in}
use Rattle.kernel_world.specs.declared.actor.Actor.{Actor}
use Rattle.kernel_world.specs.declared.actor.Actor.TheVariants.{Task, Interrupt}
use Rattle.kernel_world.specs.declared.reply.Reply.TheVariants.{Answer, Refusal}

-- ---- what they ask for
-- a caller that is a task and may call is ready
pub is_caller : (k : KernState) (a : Actor) → Acts k a → MayCall k a → IsCaller k (task_in a)
is_caller k (Task who) live ready = go (task_of k.tasks who) refl live ready where
  go : (o : Option TaskRecord) → task_of k.tasks who ≡ o → IsSome o → IfSome o (λ t. is_ready t ≡ true) → (t : TaskRecord) × (task_of k.tasks who ≡ Some t) × (is_ready t ≡ true)
  go None e live ready = absurd (cc)
  go (Some t) e live ready = (t, e, ready)
is_caller k Interrupt live ready = tt

-- ---- msgQCreate
pub made_row : (k l : KernState) (qs us : QueuesState) (max_msgs max_len options id : ℕ) → IsMade k l qs us max_msgs max_len options id
    → (ram : List ℕ) → row_of (scene l us ram) (Answer id) ≡ create_row (scene k qs ram) max_msgs max_len options
made_row k l qs us max_msgs max_len options id is ram =
    let s : Scene = scene k qs ram in
    let q = new_queue max_msgs max_len options in
    ap (λ t. row_of t (Answer id)) (is.2 ram) ∙ ap (λ i. row_of (created s q) (Answer i)) is.1 ∙ sym (ap (λ o. unless o (λ e. row_of s (Refusal e)) (row_of (created s q) (Answer k.next_id))) is.0)
