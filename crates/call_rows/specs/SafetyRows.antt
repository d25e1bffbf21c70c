-- The rows of safe sections, and of the deletion of a task.
use Rattle.std.specs.Prelude.{ℕ, ◌==◌, if◌then◌else◌}
use Rattle.wind_base.specs.Limits.{ok_word}
use Rattle.wind_base.specs.declared.board_kind.BoardKind.{BoardKind}
use Rattle.wind_base.specs.declared.errno.Errno.TheVariants as errors
use Rattle.mem_partition.specs.State.{PartState}
use Rattle.task_block.specs.declared.task.Task.{Task as TaskRecord}
use Rattle.wind_core.specs.State.{KernState, task_of}
use Rattle.wind_core.specs.Moves.{change_task}
use Rattle.task_safety.specs.Safety.{make_safe, lessen, unsafe_refusal}
use Rattle.task_safety.specs.Deletion.{deed_of, after}
use Rattle.task_safety.specs.declared.deleting.Deed.{Deed}
use Rattle.task_safety.specs.declared.deleting.Deed.TheVariants.{Refuses, EndsItself, Removes, Awaits}
use Rattle.kernel_world.specs.Objects.{deletion_gate}
use Rattle.call_rows.specs.Unless.{unless}
use Rattle.call_rows.specs.TaskRows.{KernRow, done, refused, by_task}
use Rattle.call_rows.specs.Ending.{without_stack}
use Rattle.kernel_world.specs.declared.actor.Actor.{Actor}
use Rattle.kernel_world.specs.declared.actor.Actor.TheVariants.{Task, Interrupt}
use Rattle.kernel_world.specs.declared.reply.Reply.{Reply}
use Rattle.kernel_world.specs.declared.reply.Reply.TheVariants.{Answer, Refusal, Later, Gone}

-- taskSafe
abbrev pub safe_row : KernState → Actor → KernRow
safe_row k a = by_task k a (λ who. done (make_safe k who))

-- taskUnsafe
abbrev pub unsafe_row : KernState → Actor → KernRow
unsafe_row k a = by_task k a (λ who. unless (unsafe_refusal (task_of k.tasks who)) (refused k) (done (lessen k who 1)))

-- ---- taskDelete
-- the kernel and the partition after it, and how its caller is answered
pub record DeleteRow : Type 0 where
  pub kern : KernState
  pub part : PartState
  pub reply : Reply

abbrev pub deletion : KernState → PartState → Reply → DeleteRow
deletion k p r = record { kern = k; part = p; reply = r }

-- the task is at the gate of taskDelete, so it makes its call again when it goes on
abbrev pub at_deletion : BoardKind → TaskRecord → TaskRecord
at_deletion board t = record t { regs = record t.regs { pc = deletion_gate board } }

abbrev pub back_at_gate : BoardKind → KernState → ℕ → KernState
back_at_gate board k who = change_task k who (at_deletion board)

-- the stack of a deleted task goes back to the partition; a caller that deleted itself isn't answered
abbrev pub deletes : BoardKind → KernState → PartState → ℕ → Deed → DeleteRow
deletes board k p who (Refuses e) = deletion (after k who (Refuses e)) p (Refusal e)
deletes board k p who (EndsItself count) = deletion (after k who (EndsItself count)) (without_stack p (task_of k.tasks who)) Gone
deletes board k p who (Removes id) = deletion (after k who (Removes id)) (without_stack p (task_of k.tasks id)) (Answer ok_word)
deletes board k p who (Awaits id) = deletion (back_at_gate board (after k who (Awaits id)) who) p Later

-- the id of the task to delete: 0 is the caller
abbrev pub meant : ℕ → ℕ → ℕ
meant who id = if id == 0 then who else id

abbrev pub delete_row : BoardKind → KernState → PartState → Actor → ℕ → DeleteRow
delete_row board k p (Task who) id = deletes board k p who (deed_of k.tasks who (meant who id))
delete_row board k p Interrupt id = deletion k p (Refusal errors.NotIsrCallable)
