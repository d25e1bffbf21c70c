-- Each row of the calls that touch only the kernel's tasks and counters keeps the objects' invariant.
use Rattle.std.proofs.Common.{ℕ, ◌+◌, ◌-◌, true, List, Option, None, Some}
use Rattle.wind_base.specs.declared.board_kind.BoardKind.{BoardKind}
use Rattle.wind_core.specs.State.{KernState, IsKern, task_named}
use Rattle.wind_core.specs.Move.{Delay, Suspend, Resume, Set, SetSlice}
use Rattle.wind_core.specs.declared.settings.Setting.TheVariants as settings
use Rattle.task_block.specs.declared.task.Task.{Task as TaskRecord}
use Rattle.kernel_world.specs.Objects.{KeepsObjects}
use Rattle.call_rows.specs.TaskRows.{suspend_row, resume_row, delay_row, locks_of, lock_row, unlock_row, self_row, verify_row, found_row, name_row, slice_row, tick_row, int_lock_row, int_unlock_row, int_context_row}
use Rattle.kernel_world.specs.declared.objects.Objects.{Objects}
use Rattle.kernel_world.specs.declared.actor.Actor.{Actor}
use Rattle.kernel_world.specs.declared.actor.Actor.TheVariants.{Task, Interrupt}
use Rattle.kernel_world.proofs.ObjectMoves.{objects-move}

module _ {board : BoardKind} (k : KernState) (o : Objects) (is : IsKern k) (kept : KeepsObjects board k o) where
  pub objects-suspend_row : (target : Option ℕ) → KeepsObjects board (suspend_row k target).kern o
  objects-suspend_row None = kept
  objects-suspend_row (Some id) = objects-move k o is kept (Suspend id) (tt, tt, tt, tt)

  pub objects-resume_row : (target : Option ℕ) → KeepsObjects board (resume_row k target).kern o
  objects-resume_row None = kept
  objects-resume_row (Some id) = objects-move k o is kept (Resume id) (tt, tt, tt, tt)

  pub objects-delay_row : (a : Actor) (n : ℕ) → KeepsObjects board (delay_row k a n).kern o
  objects-delay_row (Task who) n = objects-move k o is kept (Delay who n) (tt, tt, tt, tt)
  objects-delay_row Interrupt n = kept

  pub objects-lock_row : (a : Actor) → KeepsObjects board (lock_row k a).kern o
  objects-lock_row (Task who) = objects-move k o is kept (Set who (settings.Locks (locks_of k who + 1))) (tt, tt, tt, tt)
  objects-lock_row Interrupt = kept

  pub objects-unlock_row : (a : Actor) → KeepsObjects board (unlock_row k a).kern o
  objects-unlock_row (Task who) = objects-move k o is kept (Set who (settings.Locks (locks_of k who - 1))) (tt, tt, tt, tt)
  objects-unlock_row Interrupt = kept

  pub objects-self_row : (a : Actor) → KeepsObjects board (self_row k a).kern o
  objects-self_row (Task who) = kept
  objects-self_row Interrupt = kept

  pub objects-verify_row : (target : Option ℕ) → KeepsObjects board (verify_row k target).kern o
  objects-verify_row None = kept
  objects-verify_row (Some id) = kept

  found_kept : (t : Option TaskRecord) → KeepsObjects board (found_row k t).kern o
  found_kept None = kept
  found_kept (Some t) = kept

  pub objects-name_row : (name : Option (List ℕ)) → KeepsObjects board (name_row k name).kern o
  objects-name_row None = kept
  objects-name_row (Some name) = found_kept (task_named k.tasks name)

  pub objects-slice_row : (n : ℕ) → KeepsObjects board (slice_row k n).kern o
  objects-slice_row n = objects-move k o is kept (SetSlice n) (tt, tt, tt, tt)

  pub objects-tick_row : KeepsObjects board (tick_row k).kern o
  objects-tick_row = kept

  pub objects-int_lock_row : (a : Actor) → KeepsObjects board (int_lock_row k a).kern o
  objects-int_lock_row (Task who) = objects-move k o is kept (Set who (settings.IntLocked true)) (tt, tt, tt, tt)
  objects-int_lock_row Interrupt = kept

  pub objects-int_unlock_row : (a : Actor) (key : ℕ) → KeepsObjects board (int_unlock_row k a key).kern o
  objects-int_unlock_row (Task who) key = objects-move k o is kept (Set who (settings.IntLocked _)) (tt, tt, tt, tt)
  objects-int_unlock_row Interrupt key = kept

  pub objects-int_context_row : (a : Actor) → KeepsObjects board (int_context_row k a).kern o
  objects-int_context_row (Task who) = kept
  objects-int_context_row Interrupt = kept
