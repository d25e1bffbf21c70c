-- The end of a task: its safe sections end, it is gone, and its stack goes back to the partition.
use Rattle.std.specs.Prelude.{ℕ, Option, None, Some}
use Rattle.mem_partition.specs.State.{PartState, after_free}
use Rattle.mem_partition.specs.declared.block.Class.TheVariants.{Kernel}
use Rattle.task_block.specs.declared.task.Task.{Task}
use Rattle.wind_core.specs.State.{KernState, task_of}
use Rattle.wind_core.specs.Moves.{remove}
use Rattle.task_safety.specs.Safety.{safe_of, lessen}
use Rattle.kernel_world.specs.State.{WorldState}

-- the partition after the stack of a task is freed
abbrev pub without_stack : PartState → Option Task → PartState
without_stack p None = p
without_stack p (Some t) = after_free p t.stack Kernel

-- the task's safe sections have ended, so all who wait to delete it go on
abbrev pub unguarded : KernState → ℕ → KernState
unguarded k who = lessen k who (safe_of (task_of k.tasks who))

abbrev pub ended : WorldState → ℕ → WorldState
ended w who = record w {
  kern = remove (unguarded w.kern who) who;
  part = without_stack w.part (task_of w.kern.tasks who);
}
