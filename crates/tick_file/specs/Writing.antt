-- The tick file of a list of events: one line for each.
use Rattle.std.specs.Prelude.{◌≡◌, ℕ, ◌+◌, ◌<◌, ◌≤◌, Bool, not, ◌&&◌, List, [], ◌∷◌, ◌++◌, length, codes, None}
use Rattle.std.specs.Fmt.{decimal}
use Rattle.std.specs.List.{list_all}
use Rattle.wind_base.specs.Limits.{greatest_word, longest_chunk, most_slots}
use Rattle.tick_file.specs.declared.event.Event.{Event}
use Rattle.tick_file.specs.declared.event.Event.TheVariants.{Tick, Rx, Irq}
use Rattle.tick_file.specs.Lines.{first_bad_line}
use Rattle.tick_file.specs.Schedule.{Timed, brings_bytes, timetable_of}

-- the line of an event at a time, without its end
abbrev pub event_line : ℕ → Event → List ℕ
event_line time Tick = codes "tick " ++ decimal time
event_line time (Rx bytes) = codes "rx " ++ (decimal time ++ 32 ∷ decimal bytes)
event_line time (Irq slot) = codes "irq " ++ (decimal time ++ 32 ∷ decimal slot)

-- the text of a list of events with their times
abbrev pub recorded : List (ℕ × Event) → List ℕ
recorded [] = []
recorded (x ∷ xs) = event_line x.0 x.1 ++ 10 ∷ recorded xs

-- these events in a timetable, if line n asks for the first, and the next lines for the others
abbrev pub numbered : ℕ → List (ℕ × Event) → List Timed
numbered n [] = []
numbered n (x ∷ xs) = record { time = x.0; line = n; number = 1; event = x.1 } ∷ numbered (n + 1) xs

-- a line can ask for an event: it brings 1 to 4096 bytes, or its slot is 0 to 15
abbrev pub IsInRange : Event → Type 0
IsInRange Tick = Unit {0}
IsInRange (Rx bytes) = (1 ≤ bytes) × (bytes ≤ longest_chunk)
IsInRange (Irq slot) = slot < most_slots

-- a tick file can hold these events: the first is not before a least time, each other not before the one in front of it,
-- and each time fits
abbrev pub AreRecordable : ℕ → List (ℕ × Event) → Type 0
AreRecordable least [] = Unit {0}
AreRecordable least (x ∷ xs) = (least ≤ x.0) × (x.0 ≤ greatest_word) × IsInRange x.1 × AreRecordable x.0 xs

-- no event of a list brings console bytes
abbrev pub bring_no_bytes : List (ℕ × Event) → Bool
bring_no_bytes xs = list_all (λ x. not (brings_bytes x.1)) xs

-- then the timetable of their text has these events in this order, and no line of it is invalid
abbrev pub WritingLaw : Type 0
WritingLaw = (xs : List (ℕ × Event)) → AreRecordable 0 xs
    → (timetable_of (recorded xs) ≡ record { events = numbered 1 xs; on_demand = bring_no_bytes xs }) × (first_bad_line (recorded xs) ≡ None)

-- the lines of two lists, one after the other
abbrev pub MoreLaw : Type 0
MoreLaw = (n : ℕ) (xs ys : List (ℕ × Event)) → (numbered n (xs ++ ys) ≡ numbered n xs ++ numbered (n + length xs) ys) × (recorded (xs ++ ys) ≡ recorded xs ++ recorded ys)

-- one more event is one more line: the event comes last, the next line asks for it, and input stays on demand unless it
-- brings bytes
abbrev pub LongerLaw : Type 0
LongerLaw = (xs : List (ℕ × Event)) (time : ℕ) (event : Event) → AreRecordable 0 (xs ++ (time, event) ∷ [])
    → timetable_of (recorded xs ++ recorded ((time, event) ∷ [])) ≡ record {
      events = (timetable_of (recorded xs)).events ++ record { time = time; line = 1 + length xs; number = 1; event = event } ∷ [];
      on_demand = (timetable_of (recorded xs)).on_demand && not (brings_bytes event);
    }
