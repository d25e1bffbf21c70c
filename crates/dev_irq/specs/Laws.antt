-- What follows from the definitions of the interrupt controller alone.
use Rattle.std.specs.Prelude.{◌≡◌, ◌≢◌, ℕ, ◌+◌, ◌<◌, Bool, true, false, ◌&&◌, List, length, slice_index_or, None, Some}
use Rattle.std.specs.List.{list_any}
use Rattle.wind_base.specs.Limits.{greatest_word}
use Rattle.isr_watch.specs.declared.watchdog.Routine.{Routine}
use Rattle.dev_irq.specs.declared.line.Line.{Line}
use Rattle.dev_irq.specs.State.{idle_line, line_of, pending_of, is_waiting, next, IsIrqs}
use Rattle.dev_irq.specs.Calls.{changed, connected, disconnected, enabled, raised, delivered, cleared}

-- ---- counts
-- what each call does to the count of slot j, of a controller that has its line
pub record Counts (lines : List Line) (i j : ℕ) : Type 0 where
  -- one more is pending, unless the count is at its greatest; one delivered is one less
  pub raising : pending_of lines i < greatest_word → pending_of (raised lines i) i ≡ pending_of lines i + 1
  pub brimming : pending_of lines i ≡ greatest_word → pending_of (raised lines i) i ≡ pending_of lines i
  pub delivering : 0 < pending_of lines i → pending_of (delivered lines i) i + 1 ≡ pending_of lines i
  -- a cleared slot has no routine, nothing is pending, and it is enabled
  pub clearing : line_of (cleared lines i) i ≡ idle_line
  -- no other call changes a count, and no call changes another line
  pub connecting : (routine : Routine) → pending_of (connected lines i routine) j ≡ pending_of lines j
  pub disconnecting : (entry : ℕ) → pending_of (disconnected lines i entry) j ≡ pending_of lines j
  pub enabling : (on : Bool) → pending_of (enabled lines i on) j ≡ pending_of lines j
  pub others : (f : Line → Line) → j ≢ i → line_of (changed f lines i) j ≡ line_of lines j

abbrev pub CountLaw : Type 0
CountLaw = (lines : List Line) (i j : ℕ) → i < length lines → Counts lines i j

-- ---- the next delivery
-- slot i holds a device, and its line is waiting
abbrev pub can_deliver : List Bool → List Line → ℕ → Bool
can_deliver full lines i = slice_index_or full i false && is_waiting (line_of lines i)

pub record Nexts (full : List Bool) (lines : List Line) : Type 0 where
  -- it can be delivered, and no interrupt of a lesser slot can
  pub found : (i : ℕ) → next full lines ≡ Some i → (can_deliver full lines i ≡ true) × ((j : ℕ) → j < i → can_deliver full lines j ≡ false)
  -- there is none exactly if none can be delivered
  pub missed : next full lines ≡ None → (j : ℕ) → can_deliver full lines j ≡ false
  pub absent : ((j : ℕ) → can_deliver full lines j ≡ false) → next full lines ≡ None
  -- as if no line is waiting
  pub idle : list_any is_waiting lines ≡ false → next full lines ≡ None

abbrev pub NextLaw : Type 0
NextLaw = (full : List Bool) (lines : List Line) → Nexts full lines

-- ---- the invariant
pub record LinesStay (lines : List Line) (i : ℕ) : Type 0 where
  pub connecting : (routine : Routine) → IsIrqs (connected lines i routine)
  pub disconnecting : (entry : ℕ) → IsIrqs (disconnected lines i entry)
  pub enabling : (on : Bool) → IsIrqs (enabled lines i on)
  pub raising : IsIrqs (raised lines i)
  pub delivering : IsIrqs (delivered lines i)
  pub clearing : IsIrqs (cleared lines i)

-- each call keeps the controller's invariant
abbrev pub KeptLaw : Type 0
KeptLaw = (lines : List Line) (i : ℕ) → IsIrqs lines → LinesStay lines i
