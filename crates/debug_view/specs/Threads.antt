-- The threads of a state: the live tasks, the interrupt level while a routine is active, and who is gone after its own
-- last step.
use Rattle.std.specs.Prelude.{ℕ, ◌+◌, ◌%◌, ◌^◌, ◌==◌, if◌then◌else◌, Bool, List, [], codes, Option, None, Some, is_some}
use Rattle.std.specs.Option.{option_map, option_map_or, option_or}
use Rattle.wind_base.specs.Limits.{greatest_id}
use Rattle.wind_base.specs.declared.regs.Regs.{Regs}
use Rattle.task_block.specs.declared.task.Task.{Task}
use Rattle.wind_core.specs.State.{KernState, task_of}
use Rattle.kernel_world.specs.State.{WorldState}
use Rattle.kernel_world.specs.Actors.{caller_regs}
use Rattle.kernel_world.specs.declared.actor.Actor.{Actor}
use Rattle.kernel_world.specs.declared.actor.Actor.TheVariants as actors
use Rattle.debug_view.specs.declared.ended.Ended.{Ended}

-- ---- who is there
-- the thread of the interrupt level: one more than the greatest id of a task
abbrev pub interrupt_thread : ℕ
interrupt_thread = greatest_id + 1

-- the thread of a task or of the active routine
abbrev pub thread_of : Actor → ℕ
thread_of (actors.Task who) = who
thread_of actors.Interrupt = interrupt_thread

-- the task of a thread; no thread has number 0
abbrev pub task_there : KernState → ℕ → Option Task
task_there k thread = if thread == 0 then None else task_of k.tasks thread

-- the registers of a thread that is there
abbrev pub regs_there : WorldState → ℕ → Option Regs
regs_there w thread = if thread == interrupt_thread then w.watch.level else option_map (λ t. t.regs) (task_there w.kern thread)

-- ---- who is gone
-- the name of the interrupt level
abbrev pub interrupt_name : List ℕ
interrupt_name = codes "interrupt"

-- the name of a task or routine
abbrev pub name_of : KernState → Actor → List ℕ
name_of k (actors.Task who) = option_map_or (λ t. t.name) (task_of k.tasks who) []
name_of k actors.Interrupt = interrupt_name

-- these registers at the next instruction
abbrev pub moved_on : Regs → Regs
moved_on r = record r { pc = (r.pc + 4) % 2 ^ 32 }

-- what is told of a task or routine if its next step is its last
abbrev pub last_of : WorldState → Actor → Ended
last_of w who = record { thread = thread_of who; name = name_of w.kern who; regs = moved_on (caller_regs w.kern w.watch.level who) }

-- the maker of a step, if it isn't there in the world after the step
abbrev pub if_gone : WorldState → Ended → Option Ended
if_gone w e = if is_some (regs_there w e.thread) then None else Some e

abbrev pub gone_in : WorldState → Option Ended → Option Ended
gone_in w None = None
gone_in w (Some e) = if_gone w e

-- ---- who is told
-- the registers of the one that ended
abbrev pub regs_ended : Option Ended → ℕ → Option Regs
regs_ended None thread = None
regs_ended (Some e) thread = if e.thread == thread then Some e.regs else None

-- the registers that are told of a thread: of one that is there, or of the one that ended
abbrev pub regs_told : WorldState → Option Ended → ℕ → Option Regs
regs_told w ended thread = option_or (regs_there w thread) (regs_ended ended thread)

-- a thread is told
abbrev pub is_told : WorldState → Option Ended → ℕ → Bool
is_told w ended thread = is_some (regs_told w ended thread)
