-- What comes from outside in a step, and who runs.
use Rattle.std.specs.Prelude.{ℕ, ◌-◌, ◌==◌, Bool, true, false, if◌then◌else◌, List, [], ◌∷◌, Option, None, Some}
use Rattle.tick_file.specs.declared.event.Event.{Event}
use Rattle.tick_file.specs.declared.event.Event.TheVariants.{Tick, Rx, Irq}
use Rattle.wind_machine.specs.declared.next.Next.{Next}
use Rattle.wind_machine.specs.declared.next.Next.TheVariants.{Deliver, Come, Arrive, Routine, Act, Load, Jump, Over}
use Rattle.board_trace.specs.declared.moment.BeforeStep.{BeforeStep}
use Rattle.board_trace.specs.declared.moment.AfterStep.{AfterStep}
use Rattle.board_trace.specs.declared.happening.Happening.{Happening}
use Rattle.board_trace.specs.declared.happening.Happening.TheVariants as told

-- the bytes that have arrived: as many as are left fewer
abbrev pub arrived : BeforeStep → AfterStep → Happening
arrived c r = told.Arrival (c.left - r.left)

-- the event that occurs
abbrev pub event_told : Event → BeforeStep → AfterStep → Happening
event_told Tick c r = told.Tick r.tick
event_told (Rx n) c r = arrived c r
event_told (Irq slot) c r = told.Interrupt slot

-- what comes from outside: a delivery, an event, bytes, a file, or another time
abbrev pub from_outside : Next → BeforeStep → AfterStep → List Happening
from_outside (Deliver slot) c r = told.Delivery slot ∷ []
from_outside (Come e) c r = event_told e c r ∷ []
from_outside Arrive c r = arrived c r ∷ []
from_outside (Load name) c r = told.File name ∷ []
from_outside (Jump time) c r = told.Jump time ∷ []
from_outside Routine c r = []
from_outside (Act who) c r = []
from_outside Over c r = []

-- bytes of the console arrive
abbrev pub is_hearing : Next → Bool
is_hearing Arrive = true
is_hearing (Come (Rx n)) = true
is_hearing n = false

-- this task ran last
abbrev pub is_last : Option ℕ → ℕ → Bool
is_last None who = false
is_last (Some last) who = last == who

-- a task runs in place of the one that ran last
abbrev pub switches : Option ℕ → Option ℕ → List Happening
switches last None = []
switches last (Some who) = if is_last last who then [] else told.Runs who last ∷ []
