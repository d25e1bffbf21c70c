-- Reservations: an event, a kernel call, and a step of another context drop a context's reservation (Power ISA,
-- lwarx and stwcx.; the further cases are this project's own rule).
use Rattle.std.specs.Prelude.{ℕ, map, ◌==◌, if◌then◌else◌}
use Rattle.task_block.specs.declared.task.Task.{Task}
use Rattle.wind_core.specs.State.{KernState}
use Rattle.wind_core.specs.Moves.{unreserved}

-- a task's record after a step of the task with this id
abbrev pub unless_own : ℕ → Task → Task
unless_own who t = if t.id == who then t else unreserved t

-- the kernel without the reservations of other tasks
abbrev pub drop_others : KernState → ℕ → KernState
drop_others k who = record k { tasks = map (unless_own who) k.tasks }

-- the kernel without reservations
abbrev pub drop_all : KernState → KernState
drop_all k = record k { tasks = map unreserved k.tasks }
