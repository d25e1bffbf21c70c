-- A caller is put back at its gate, as before its call.
use Rattle.std.specs.Prelude.{ℕ, Option, None, Some}
use Rattle.wind_base.specs.declared.regs.Regs.{Regs}
use Rattle.task_block.specs.declared.task.Task.{Task as TaskRecord}
use Rattle.wind_core.specs.State.{task_of}
use Rattle.wind_core.specs.Moves.{change_task}
use Rattle.call_rows.specs.KernelWorldState.{WorldState}
use Rattle.call_rows.specs.KernelWorldActor.{Actor}
use Rattle.call_rows.specs.KernelWorldActor.TheVariants.{Task, Interrupt}

-- the program counter of a caller that is a task
abbrev pub counter_in : Option TaskRecord → ℕ
counter_in None = 0
counter_in (Some t) = t.regs.pc

abbrev pub counter_of : WorldState → Actor → ℕ
counter_of w (Task who) = counter_in (task_of w.kern.tasks who)
counter_of w Interrupt = 0

-- the registers with this program counter, and a task with it
abbrev pub with_counter : ℕ → Regs → Regs
with_counter pc r = record r { pc = pc }

abbrev pub task_at : ℕ → TaskRecord → TaskRecord
task_at pc t = record t { regs = with_counter pc t.regs }

-- the world in which the caller, if it is a task, has this program counter
abbrev pub standing_at : WorldState → Actor → ℕ → WorldState
standing_at w (Task who) pc = record w { kern = change_task w.kern who (task_at pc) }
standing_at w Interrupt pc = w
