-- Exceptions, aborts, and interrupt routines that begin and end.
use Rattle.std.specs.Prelude.{ℕ, ◌&&◌, ◌||◌, Bool, true, false, if◌then◌else◌, List, [], ◌∷◌, ◌++◌, Option, None, Some, is_some, is_none}
use Rattle.wind_base.specs.declared.gate.Gate.{Gate}
use Rattle.wind_base.specs.declared.gate.Gate.TheVariants as gates
use Rattle.tick_file.specs.declared.event.Event.TheVariants.{Tick}
use Rattle.kernel_world.specs.Actors.{is_shell}
use Rattle.kernel_world.specs.declared.actor.Actor.{Actor}
use Rattle.kernel_world.specs.declared.actor.Actor.TheVariants.{Task as by_task, Interrupt}
use Rattle.wind_machine.specs.declared.next.Next.{Next}
use Rattle.wind_machine.specs.declared.next.Next.TheVariants.{Deliver, Come}
use Rattle.wind_machine.specs.declared.phase.Phase.{Phase}
use Rattle.wind_machine.specs.declared.phase.Phase.TheVariants as phases
use Rattle.board_trace.specs.Causes.{cause_of}
use Rattle.board_trace.specs.declared.moment.BeforeStep.{BeforeStep}
use Rattle.board_trace.specs.declared.moment.Level.{Level}
use Rattle.board_trace.specs.declared.moment.AfterStep.{AfterStep}
use Rattle.board_trace.specs.declared.happening.Happening.{Happening}
use Rattle.board_trace.specs.declared.happening.Happening.TheVariants as told

-- the step is an exception: a task or routine that is at no call wrote something
abbrev pub is_exception : BeforeStep → Bool → Bool
is_exception c wrote = wrote && is_some c.at && is_none c.call

abbrev pub exception_told : BeforeStep → List ℕ → Option Actor → Option ℕ → List Happening
exception_told c written (Some who) (Some at) = told.Exception who at (cause_of written at c.word c.target) ∷ []
exception_told c written None at = []
exception_told c written (Some who) None = []

-- the shell is at its prompt
abbrev pub is_idle : Phase → Bool
is_idle phases.Prompt = true
is_idle p = false

-- the step is one of the shell's task
abbrev pub is_of_shell : Option Actor → Bool
is_of_shell None = false
is_of_shell (Some who) = is_shell who

-- the shell's line is aborted: bytes arrive and one of them is the interrupt key's, or the shell's task causes an
-- exception, after which the shell is at its prompt
abbrev pub is_abort : BeforeStep → AfterStep → Bool → Bool
is_abort c r exception = c.interrupt_key || (exception && (is_of_shell c.actor && is_idle r.phase))

abbrev pub faults : BeforeStep → AfterStep → List ℕ → Bool → List Happening
faults c r written exception = (if exception then exception_told c written c.actor c.at else []) ++ (if is_abort c r exception then told.Abort ∷ [] else [])

-- ---- interrupt routines
-- the step is one of the active routine
abbrev pub is_of_level : Option Actor → Bool
is_of_level None = false
is_of_level (Some (by_task who)) = false
is_of_level (Some Interrupt) = true

-- the gate is the return of a routine
abbrev pub is_return : Option Gate → Bool
is_return None = false
is_return (Some gates.InterruptReturn) = true
is_return (Some g) = false

-- the active routine ends: it comes to its return, or causes an exception
abbrev pub routine_ends : BeforeStep → Bool → Bool
routine_ends c wrote = is_of_level c.actor && (is_return c.gate || is_exception c wrote)

-- a routine may begin: a tick occurs, an interrupt is delivered, or another routine ends
abbrev pub may_begin : Next → Bool → Bool
may_begin (Deliver slot) ends = true
may_begin (Come Tick) ends = true
may_begin n ends = ends

-- the routine that is active now has begun, if one may
abbrev pub begins : Bool → Option Level → List Happening
begins false level = []
begins true None = []
begins true (Some l) = told.RoutineBegins l.pc l.param ∷ []

abbrev pub routines : BeforeStep → AfterStep → Bool → List Happening
routines c r wrote =
    (if routine_ends c wrote then told.RoutineEnds ∷ [] else []) ++ begins (may_begin c.next (routine_ends c wrote)) r.level
