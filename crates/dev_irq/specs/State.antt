-- What a contract sees of the interrupt controller: the line of each device slot, from slot 0 on.
use Rattle.std.specs.Prelude.{◌≡◌, ℕ, ◌≤◌, Bool, true, ◌&&◌, nat_lt, List, [], length, slice_index_or, Option}
use Rattle.std.specs.List.{All, position, zip}
use Rattle.wind_base.specs.Limits.{most_slots, most_connections, greatest_word}
use Rattle.isr_watch.specs.declared.watchdog.Routine.{Routine}
use Rattle.dev_irq.specs.declared.line.Line.{Line}

-- a line that is enabled, without a routine, and nothing is pending
abbrev pub idle_line : Line
idle_line = record { routines = record { items = [] }; on = true; pending = 0 }

-- the line of a slot
abbrev pub line_of : List Line → ℕ → Line
line_of lines i = slice_index_or lines i idle_line

-- the routines that are connected to a slot, in the order of connection
abbrev pub routines_of : List Line → ℕ → List Routine
routines_of lines i = (line_of lines i).routines.items

-- how many interrupts of a slot are pending
abbrev pub pending_of : List Line → ℕ → ℕ
pending_of lines i = (line_of lines i).pending

-- a line that is enabled, has a routine and has a pending interrupt
abbrev pub is_waiting : Line → Bool
is_waiting l = l.on && nat_lt 0 (length l.routines.items) && nat_lt 0 l.pending

-- an interrupt of a slot can be delivered: the slot holds a device, and its line is waiting
abbrev pub is_deliverable : Bool × Line → Bool
is_deliverable (full, l) = full && is_waiting l

-- the least slot with an interrupt that can be delivered; `full` says which slots hold a device
unfoldable pub next : List Bool → List Line → Option ℕ
next full lines = position is_deliverable (zip full lines)

-- ---- the invariant, which every call keeps
-- a line has no more routines than it may have, and its count is a word
pub record IsLine (l : Line) : Type 0 where
  pub few : length l.routines.items ≤ most_connections
  pub word : l.pending ≤ greatest_word

-- the controller has a line for each slot
pub record IsIrqs (lines : List Line) : Type 0 where
  pub all : length lines ≡ most_slots
  pub each : All IsLine lines
