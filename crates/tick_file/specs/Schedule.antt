-- The events that a tick file asks for.
use Rattle.std.specs.Prelude.{ℕ, zero, suc, ◌*◌, Bool, true, false, not, List, [], ◌∷◌}
use Rattle.std.specs.List.{flat_map, list_all}
use Rattle.std.specs.Ordering.{is_lt, nat_cmp}
use Rattle.std.specs.Cmp.Lexicographic.{slice_cmp}
use Rattle.id_table.specs.Sorting.{sorted}
use Rattle.tick_file.specs.declared.event.Event.{Event}
use Rattle.tick_file.specs.declared.event.Event.TheVariants.{Tick, Rx, Irq}
use Rattle.tick_file.specs.declared.event.Rule.{Rule}
use Rattle.tick_file.specs.declared.event.Rule.TheVariants.{At, Every}
use Rattle.tick_file.specs.Lines.{Numbered, rules_of}

-- an event: its time, the line that asks for it, and its number among that line's events, counted from 1
pub record Timed : Type 0 where
  pub time : ℕ
  pub line : ℕ
  pub number : ℕ
  pub event : Event

-- `count` events of line n from number k on: event number k comes at k periods
abbrev pub events_from : ℕ → ℕ → Event → ℕ → ℕ → List Timed
events_from n period event k zero = []
events_from n period event k (suc count) = record { time = k * period; line = n; number = k; event = event } ∷ events_from n period event (suc k) count

-- the events of line n, if it has this rule
abbrev pub events_at : ℕ → Rule → List Timed
events_at n (At time event) = record { time = time; line = n; number = 1; event = event } ∷ []
events_at n (Every period count event) = events_from n period event 1 count

abbrev pub events_of : Numbered → List Timed
events_of r = events_at r.line r.rule

-- the key by which events are ordered
abbrev pub place_of : Timed → List ℕ
place_of t = t.time ∷ t.line ∷ t.number ∷ []

-- a comes before b: by time, then by line, then by number in the line
unfoldable pub before : Timed → Timed → Bool
before a b = is_lt (slice_cmp nat_cmp (place_of a) (place_of b))

-- all events of these rules, in order
abbrev pub in_order : List Numbered → List Timed
in_order rules = sorted before (flat_map events_of rules)

-- console bytes arrive
abbrev pub brings_bytes : Event → Bool
brings_bytes Tick = false
brings_bytes (Rx bytes) = true
brings_bytes (Irq slot) = false

-- the event that a rule asks for, once or several times
abbrev pub event_of : Rule → Event
event_of (At time event) = event
event_of (Every period count event) = event

-- what a contract sees of a schedule: the future events, and whether input comes on demand
pub record Timetable : Type 0 where
  pub events : List Timed
  pub on_demand : Bool

-- an event with its time
abbrev pub at : Timed → ℕ × Event
at t = (t.time, t.event)

-- the timetable that a text asks for; input comes on demand if no line is an `rx` line
unfoldable pub timetable_of : List ℕ → Timetable
timetable_of text = record { events = in_order (rules_of text); on_demand = list_all (λ r. not (brings_bytes (event_of r.rule))) (rules_of text) }
