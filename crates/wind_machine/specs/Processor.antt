-- A step of an actor, a task or the active interrupt routine: what it does at a gate, or one instruction.
use Rattle.std.specs.Prelude.{ℕ, List, [], Bool, ◌==◌, Option, None, Some, if◌then◌else◌, slice_index}
use Rattle.wind_base.specs.Boards.{board_rules}
use Rattle.wind_base.specs.Gates.{gate_at, gate_number}
use Rattle.wind_base.specs.declared.gate.Gate.{Gate}
use Rattle.wind_base.specs.declared.gate.Gate.TheVariants as gates
use Rattle.wind_base.specs.declared.regs.Regs.{Regs}
use Rattle.task_block.specs.declared.task.Task.{Task}
use Rattle.wind_core.specs.State.{task_of}
use Rattle.wind_core.specs.Moves.{suspend, set_regs, unreserve}
use Rattle.isr_watch.specs.Calls.{with_level}
use Rattle.ppc_core.specs.Instructions.{exec_of}
use Rattle.ppc_core.specs.Outcomes.{Outcome, Done, Trapped}
use Rattle.ppc_core.specs.declared.trap.Trap.{Trap}
use Rattle.ppc_core.specs.declared.trap.Trap.TheVariants as traps
use Rattle.board_bus.specs.BusState.{BusState}
use Rattle.board_bus.specs.Access.{board_meaning, fetched}
use Rattle.live_loading.specs.KernelWorldState.{WorldState}
use Rattle.id_table.specs.Idents.{shell_id}
use Rattle.live_loading.specs.KernelWorldActors.{caller_regs}
use Rattle.live_loading.specs.KernelWorldReplies.{at_level}
use Rattle.live_loading.specs.KernelCallsCalls.{call}
use Rattle.live_loading.specs.KernelWorldAllowed.{is_call}
use Rattle.live_loading.specs.CallRowsEnding.{ended}
use Rattle.live_loading.specs.KernelWorldActor.{Actor}
use Rattle.live_loading.specs.KernelWorldActor.TheVariants.{Task as by_task, Interrupt}
use Rattle.wind_machine.specs.State.{ShellState}
use Rattle.wind_machine.specs.Part.{Part, part_of, with_kern, writing}
use Rattle.wind_machine.specs.Task.{aborted}
use Rattle.wind_machine.specs.Shell.{at_prompt, returned}
use Rattle.wind_machine.specs.Routine.{with_watch, without_reserve, next_routine}
use Rattle.wind_machine.specs.Text.{exception_text, routine_text}

-- the RAM and devices of a world, and the world with other ones
abbrev pub bus_of : WorldState → BusState
bus_of w = record { ram = w.ram; slots = w.slots }

abbrev pub with_bus : WorldState → BusState → WorldState
with_bus w b = record w { ram = b.ram; slots = b.slots }

-- the registers of an actor; if there is no such actor, no register has a value
abbrev pub regs_of : WorldState → Actor → Regs
regs_of w who = caller_regs w.kern w.watch.level who

-- the world with these registers of the actor
abbrev pub with_regs : WorldState → Actor → Regs → WorldState
with_regs w (by_task who) regs = with_kern w (set_regs w.kern who regs)
with_regs w Interrupt regs = with_watch w (with_level w.watch regs)

-- the world in which the actor has no reservation
abbrev pub without_own : WorldState → Actor → WorldState
without_own w (by_task who) = with_kern w (unreserve w.kern who)
without_own w Interrupt = at_level w without_reserve

-- ---- exceptions
-- what an exception of a task writes
abbrev pub trap_text : Trap → Option Task → List ℕ
trap_text trap None = []
trap_text trap (Some t) = exception_text trap t.name t.id t.regs.pc

-- an exception is reported. A task that causes one is suspended, and keeps its registers; if it was in a call of the
-- shell, the shell aborts the line. Of interrupt routines, only the one that causes it is given up
abbrev pub trapped : Trap → ShellState → WorldState → Actor → Part
trapped trap shell w (by_task who) =
    if who == shell_id then part_of at_prompt (writing (with_kern w (aborted w.kern)) (trap_text trap (task_of w.kern.tasks who)))
    else part_of shell (writing (with_kern w (suspend w.kern who)) (trap_text trap (task_of w.kern.tasks who)))
trapped trap shell w Interrupt = part_of shell (next_routine (writing w (routine_text trap (regs_of w Interrupt).pc)))

-- ---- at a gate
-- the gate at which a call of the shell returns, another task ends, or an interrupt routine returns
abbrev pub own_return : Actor → Gate
own_return (by_task who) = if who == shell_id then gates.ShellReturn else gates.TaskReturn
own_return Interrupt = gates.InterruptReturn

abbrev pub is_return : Gate → Actor → Bool
is_return g who = gate_number g == gate_number (own_return who)

-- a call of the shell returns with r3 as its value; any other task ends; a routine is done
abbrev pub return_part : ShellState → WorldState → Actor → Part
return_part shell w (by_task who) =
    if who == shell_id then part_of (returned (slice_index (regs_of w (by_task who)).gpr 3) shell) (without_own w (by_task who))
    else part_of shell (ended w who)
return_part shell w Interrupt = part_of shell (next_routine w)

-- a kernel call
abbrev pub called : Gate → WorldState → Actor → WorldState
called g w who = without_own (call g w who) who

-- the gate is the actor's return, or that of a call; any other gate is an access to nothing
abbrev pub gate_part : Gate → ShellState → WorldState → Actor → Part
gate_part g shell w who =
    if is_return g who then return_part shell w who
    else (if is_call g then part_of shell (called g w who) else trapped traps.Access shell w who)

-- ---- an instruction
abbrev pub executed : Outcome BusState → ShellState → WorldState → Actor → Part
executed (Done regs bus) shell w who = part_of shell (with_bus (with_regs w who regs) bus)
executed (Trapped trap) shell w who = trapped trap shell w who

-- the word there is executed; if none can be fetched, that is an access to nothing (Power ISA, instruction fetch)
abbrev pub word_part : Option ℕ → ShellState → WorldState → Actor → Part
word_part None shell w who = trapped traps.Access shell w who
word_part (Some word) shell w who = executed (exec_of board_meaning (regs_of w who) word (bus_of w)) shell w who

-- ---- a step of an actor, by its program counter
abbrev pub part_at : Option Gate → ShellState → WorldState → Actor → Part
part_at (Some g) shell w who = gate_part g shell w who
part_at None shell w who = word_part (fetched (bus_of w) (regs_of w who).pc) shell w who

-- the gate at which an actor is
abbrev pub gate_under : WorldState → Actor → Option Gate
gate_under w who = gate_at (board_rules w.board).gates_start (regs_of w who).pc

unfoldable pub actor_part : ShellState → WorldState → Actor → Part
actor_part shell w who = part_at (gate_under w who) shell w who
