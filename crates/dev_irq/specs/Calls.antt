-- What the calls of the interrupt controller do. They are this project's own.
use Rattle.std.specs.Prelude.{ℕ, ◌+◌, ◌-◌, ◌==◌, Bool, nat_le, min, if◌then◌else◌, List, [], ◌∷◌, ◌++◌, length, slice_set, Option, None, Some, is_some}
use Rattle.std.specs.List.{position, remove}
use Rattle.wind_base.specs.Limits.{most_connections, greatest_word}
use Rattle.wind_base.specs.declared.errno.Errno.{Errno}
use Rattle.wind_base.specs.declared.errno.Errno.TheVariants as errors
use Rattle.isr_watch.specs.declared.watchdog.Routine.{Routine}
use Rattle.dev_irq.specs.declared.line.Line.{Line}
use Rattle.dev_irq.specs.State.{idle_line, line_of}

-- ---- one line
-- the line with these routines
abbrev pub with_routines : List Routine → Line → Line
with_routines routines l = record l { routines = record { items = routines } }

-- why no routine can be connected: the line has the most routines that it may have
abbrev pub is_full : Line → Bool
is_full l = nat_le most_connections (length l.routines.items)

abbrev pub connect_refusal : Line → Option Errno
connect_refusal l = if is_full l then Some errors.TooMany else None

-- one more routine is connected, as the last, unless the line is full
abbrev pub with_routine : Routine → Line → Line
with_routine routine l = if is_full l then l else with_routines (l.routines.items ++ routine ∷ []) l

-- the position of the earliest connection of the routine that begins at an address
abbrev pub position_of : ℕ → List Routine → Option ℕ
position_of entry routines = position (λ r. r.entry == entry) routines

-- why it can't be disconnected: there is none
abbrev pub disconnect_refusal : ℕ → Line → Option Errno
disconnect_refusal entry l = if is_some (position_of entry l.routines.items) then None else Some errors.InvalidOperation

-- the routines without the one at a position
abbrev pub without_position : List Routine → Option ℕ → List Routine
without_position routines None = routines
without_position routines (Some at) = remove routines at

-- the earliest connection of a routine is gone
abbrev pub without_routine : ℕ → Line → Line
without_routine entry l = with_routines (without_position l.routines.items (position_of entry l.routines.items)) l

-- the line is enabled, or it isn't
abbrev pub with_mark : Bool → Line → Line
with_mark mark l = record l { on = mark }

-- one more interrupt is pending, up to the greatest word
abbrev pub with_one_more : Line → Line
with_one_more l = record l { pending = min (l.pending + 1) greatest_word }

-- one interrupt fewer is pending
abbrev pub with_one_less : Line → Line
with_one_less l = record l { pending = l.pending - 1 }

-- ---- the line of one slot; every other line stays
-- the lines after a change of the one of slot i
abbrev pub changed : (Line → Line) → List Line → ℕ → List Line
changed f lines i = slice_set lines i (f (line_of lines i))

-- a routine is connected to slot i
abbrev pub connected : List Line → ℕ → Routine → List Line
connected lines i routine = changed (with_routine routine) lines i

-- a routine is disconnected from slot i
abbrev pub disconnected : List Line → ℕ → ℕ → List Line
disconnected lines i entry = changed (without_routine entry) lines i

-- slot i is enabled or disabled
abbrev pub enabled : List Line → ℕ → Bool → List Line
enabled lines i mark = changed (with_mark mark) lines i

-- the device of slot i interrupts
abbrev pub raised : List Line → ℕ → List Line
raised lines i = changed with_one_more lines i

-- an interrupt of slot i is delivered
abbrev pub delivered : List Line → ℕ → List Line
delivered lines i = changed with_one_less lines i

-- the line of slot i becomes what it is at first
abbrev pub cleared : List Line → ℕ → List Line
cleared lines i = changed (λ l. idle_line) lines i
