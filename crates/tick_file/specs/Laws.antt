-- What the lines and the timetable of a text are, apart from how they are made.
use Rattle.std.specs.Prelude.{◌≡◌, ℕ, ◌+◌, ◌*◌, ◌^◌, ◌<◌, ◌≤◌, true, not, ◌==◌, ◌↔◌, List, [], ◌∷◌, ◌++◌, length, slice_index_or, Some}
use Rattle.std.specs.List.{All, AllPairs, Contains, list_all}
use Rattle.tick_file.specs.declared.event.Rule.{Rule}
use Rattle.tick_file.specs.declared.event.Rule.TheVariants.{At, Every}
use Rattle.tick_file.specs.declared.event.Said.{Said}
use Rattle.tick_file.specs.declared.event.Said.TheVariants.{Says, Outside}
use Rattle.tick_file.specs.Grammar.{said}
use Rattle.source_text.specs.Lines.{pieces}
use Rattle.tick_file.specs.Lines.{tick_lines, Numbered, rules_of, first_bad_line}
use Rattle.tick_file.specs.Schedule.{Timed, before, timetable_of}

-- the pieces, with an 0x0A between each two
abbrev pub joined : List (List ℕ) → List ℕ
joined [] = []
joined (piece ∷ []) = piece
joined (piece ∷ next ∷ more) = piece ++ 10 ∷ joined (next ∷ more)

-- the piece contains no 0x0A
abbrev pub HasNoEnd : List ℕ → Type 0
HasNoEnd piece = list_all (λ b. not (b == 10)) piece ≡ true

-- joined, the pieces of a text are the text, and none contains an 0x0A
abbrev pub PiecesLaw : Type 0
PiecesLaw = (text : List ℕ) → (joined (pieces text) ≡ text) × All HasNoEnd (pieces text)

-- line n of a text, counted from 1, says this
abbrev pub SaysAt : List ℕ → ℕ → Said → Type 0
SaysAt text n s = (k : ℕ) × (n ≡ 1 + k) × (k < length (tick_lines text)) × (said (slice_index_or (tick_lines text) k []) ≡ s)

-- the rules of a text are those that its lines say, and its first bad line is the first invalid one
abbrev pub LinesLaw : Type 0
LinesLaw = (text : List ℕ) → ((r : Numbered) → Contains (rules_of text) r ↔ SaysAt text r.line (Says r.rule))
    × ((n : ℕ) → (first_bad_line text ≡ Some n) ↔ (SaysAt text n Outside × ((m : ℕ) → m < n → SaysAt text m Outside → ⊥)))

-- line n asks for an event, if it has this rule
abbrev pub AsksAt : ℕ → Rule → Timed → Type 0
AsksAt n (At time event) e = e ≡ record { time = time; line = n; number = 1; event = event }
AsksAt n (Every period count event) e = (k : ℕ) × (1 ≤ k) × (k ≤ count) × (e ≡ record { time = k * period; line = n; number = k; event = event })

-- one of the rules of a text asks for an event
abbrev pub IsAsked : List ℕ → Timed → Type 0
IsAsked text e = (r : Numbered) × Contains (rules_of text) r × AsksAt r.line r.rule e

-- in a timetable each event is before all that follow it, and its events are those that the text asks for
abbrev pub TimetableLaw : Type 0
TimetableLaw = (text : List ℕ) → AllPairs (λ a b. before a b ≡ true) (timetable_of text).events × ((e : Timed) → Contains (timetable_of text).events e ↔ IsAsked text e)

-- an event comes before 2 ^ 64, and all events that a text can ask for do
abbrev pub IsEarly : Timed → Type 0
IsEarly e = e.time < 2 ^ 64

abbrev pub EarlyLaw : Type 0
EarlyLaw = (text : List ℕ) → All IsEarly (timetable_of text).events
