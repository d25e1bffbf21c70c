-- Which trap the machine makes when it executes a word, and the cause that its line tells.
use Rattle.std.specs.Prelude.{◌≡◌, ℕ, List, [], ◌∷◌, ◌++◌, Option, None, Some}
use Rattle.std.specs.Option.{unwrap_or}
use Rattle.ppc_core.specs.Instructions.{exec_of}
use Rattle.ppc_core.specs.Outcomes.{Outcome, Done, Trapped}
use Rattle.ppc_core.specs.declared.trap.Trap.{Trap}
use Rattle.ppc_core.specs.declared.trap.Trap.TheVariants as traps
use Rattle.board_bus.specs.Access.{board_meaning}
use Rattle.board_bus.specs.BusState.{BusState}
use Rattle.kernel_world.specs.State.{WorldState}
use Rattle.kernel_world.specs.declared.actor.Actor.{Actor}
use Rattle.kernel_world.specs.declared.actor.Actor.TheVariants.{Task as by_task, Interrupt}
use Rattle.wind_machine.specs.ActorSteps.{at_step_start}
use Rattle.wind_machine.specs.Events.{cleared, unreserved_world}
use Rattle.wind_machine.specs.Good.{Good}
use Rattle.wind_machine.specs.LiveLoadingSaid.{FileSaid}
use Rattle.wind_machine.specs.Machine.{machine_step}
use Rattle.wind_machine.specs.Processor.{bus_of, regs_of}
use Rattle.wind_machine.specs.Silent.{IsInstructionOf}
use Rattle.wind_machine.specs.State.{State}
use Rattle.board_trace.specs.Before.{word_of}
use Rattle.board_trace.specs.Causes.{target_of}
use Rattle.board_trace.specs.Steps.{happenings}
use Rattle.board_trace.specs.declared.cause.Cause.{Cause}
use Rattle.board_trace.specs.declared.cause.Cause.TheVariants as causes
use Rattle.board_trace.specs.declared.happening.Happening.{Happening}
use Rattle.board_trace.specs.declared.happening.Happening.TheVariants as told

-- the world in which a task or routine makes the next step
abbrev pub world_at_step : State → Actor → WorldState
world_at_step s (by_task who) = at_step_start s.world who
world_at_step s Interrupt = cleared (unreserved_world s.world)

-- the trap of an instruction; none if it is executed
abbrev pub trap_of : Outcome BusState → Option Trap
trap_of (Done regs bus) = None
trap_of (Trapped trap) = Some trap

-- the trap of the word at a program counter; if no word can be fetched there, that is an access
abbrev pub trap_at : Option ℕ → WorldState → Actor → Option Trap
trap_at None w who = Some traps.Access
trap_at (Some word) w who = trap_of (exec_of board_meaning (regs_of w who) word (bus_of w))

-- the cause that belongs to a trap: an illegal word with the word, an access and an alignment with the data address, or with
-- the program counter if no word can be fetched there
abbrev pub cause_by : Trap → ℕ → Option ℕ → Option ℕ → Cause
cause_by traps.Illegal at word target = causes.Illegal (unwrap_or word 0)
cause_by traps.Align at word target = causes.Alignment (unwrap_or target at)
cause_by traps.Access at word target = causes.Access (unwrap_or target at)
cause_by traps.TrapInsn at word target = causes.Trap
cause_by traps.Sysc at word target = causes.SystemCall

-- the cause of a trap in the next step of a task or routine
abbrev pub cause_in : State → Actor → Trap → Cause
cause_in s who trap = cause_by trap (regs_of s.world who).pc (word_of s) (target_of s.world (Some who) (word_of s))

-- the exception of a trap there, at the program counter; none without a trap
abbrev pub exception_by : State → Actor → Option Trap → List Happening
exception_by s who None = []
exception_by s who (Some trap) = told.Exception who (regs_of s.world who).pc (cause_in s who trap) ∷ []

-- the exceptions among happenings
abbrev pub exception_in : Happening → List Happening
exception_in (told.Exception who at cause) = told.Exception who at cause ∷ []
exception_in h = []

abbrev pub exceptions_in : List Happening → List Happening
exceptions_in [] = []
exceptions_in (h ∷ hs) = exception_in h ++ exceptions_in hs

-- in a step from a state with the invariant, in which a task or routine executes a word, the happenings have an exception
-- exactly if the machine traps: one, at the program counter, whose cause is that trap, with the word or the data address
abbrev pub CauseLaw : Type 0
CauseLaw =
    (said : FileSaid) (s t : State) (who : Actor) → Good s → IsInstructionOf who s → machine_step said s ≡ Some t
    → exceptions_in (happenings said s t) ≡ exception_by s who (trap_at (word_of s) (world_at_step s who) who)
