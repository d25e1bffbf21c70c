-- How a family's text is read: its entries, or the first bad line and its fault.
use Rattle.std.specs.Prelude.{ℕ, ◌+◌, ◌-◌, ◌*◌, ◌^◌, ◌≡◌, Bool, nat_lt, if◌then◌else◌, List, [], ◌∷◌, length, Result, Ok, Err}
use Rattle.std.specs.List.{list_any, sum_by}
use Rattle.wind_base.specs.Limits.{greatest_word, longest_text_file}
use Rattle.tick_file.specs.declared.event.Event.{Event}
use Rattle.tick_file.specs.Lines.{tick_lines}
use Rattle.tick_file.specs.Writing.{event_line}
use Rattle.tick_family.specs.declared.fault.Fault.{Fault}
use Rattle.tick_family.specs.declared.fault.Fault.TheVariants.{TooManyMembers, TimeTooLate, TextTooLong}
use Rattle.tick_family.specs.declared.fault.FamilyErr.{FamilyErr}
use Rattle.tick_family.specs.declared.fault.FamilyErr.TheVariants.{BadLine, NoMemory}
use Rattle.tick_family.specs.declared.entry.Entry.{Entry}
use Rattle.tick_family.specs.declared.entry.Content.{Content}
use Rattle.tick_family.specs.declared.entry.Content.TheVariants.{Nothing, Asks, Bad}
use Rattle.tick_family.specs.declared.extent.Extent.{Extent}
use Rattle.tick_family.specs.Entries.{content_of}
use Rattle.tick_family.specs.Members.{choices, shift_below, entry_events}

-- the most members of a family
abbrev pub most_members : ℕ
most_members = 10 ^ 12

-- the length of the tick file of these events
abbrev pub text_length : List (ℕ × Event) → ℕ
text_length es = sum_by (λ e. length (event_line e.0 e.1) + 1) es

-- some event comes later than a tick file can say
abbrev pub is_late : List (ℕ × Event) → Bool
is_late es = list_any (λ e. nat_lt greatest_word e.0) es

-- the place of the greatest number that an entry can choose
abbrev pub greatest : Entry → ℕ
greatest x = choices x - 1

-- no entries yet: one member, no shift, an empty text
abbrev pub start : Extent
start = record { members = 1; shift = 0; bytes = 0 }

-- the events that an entry adds to the last member, which chooses the greatest number of each range: no member has later
-- events or a longer text
abbrev pub last_events : Extent → Entry → List (ℕ × Event)
last_events extent x = entry_events extent.shift x (greatest x)

-- the members, and the shift and the length of the last member's text, with one more entry
abbrev pub extended : Extent → Entry → Extent
extended extent x = record {
  members = extent.members * choices x;
  shift = shift_below extent.shift x (greatest x);
  bytes = extent.bytes + text_length (last_events extent x);
}

-- the same, or why the entry is refused
unfoldable pub grown : Extent → Entry → Result Extent Fault
grown extent x =
    if nat_lt most_members (extent.members * choices x) then Err TooManyMembers
    else if is_late (last_events extent x) then Err TimeTooLate
    else if nat_lt longest_text_file (extent.bytes + text_length (last_events extent x)) then Err TextTooLong
    else Ok (extended extent x)

-- an entry before others, unless a later line is bad
abbrev pub onto : Entry → Result (List Entry) (ℕ × Fault) → Result (List Entry) (ℕ × Fault)
onto x (Ok xs) = Ok (x ∷ xs)
onto x (Err bad) = Err bad

-- what follows line n, if it is the line of this entry
abbrev pub after_entry : ℕ → Entry → Result Extent Fault → (Extent → Result (List Entry) (ℕ × Fault)) → Result (List Entry) (ℕ × Fault)
after_entry n x (Ok extent) more = onto x (more extent)
after_entry n x (Err fault) more = Err (n, fault)

-- what follows line n, if it has this content
abbrev pub after_content : ℕ → Extent → Content → (Extent → Result (List Entry) (ℕ × Fault)) → Result (List Entry) (ℕ × Fault)
after_content n extent Nothing more = more extent
after_content n extent (Asks x) more = after_entry n x (grown extent x) more
after_content n extent (Bad fault) more = Err (n, fault)

-- the entries of lines, the first of which has number n, or the first bad line and its fault
abbrev pub read_from : ℕ → Extent → List (List ℕ) → Result (List Entry) (ℕ × Fault)
read_from n extent [] = Ok []
read_from n extent (line ∷ lines) = after_content n extent (content_of line) (λ next. read_from (n + 1) next lines)

-- the entries of a text, or its first bad line, counted from 1, and that line's fault
unfoldable pub family_of : List ℕ → Result (List Entry) (ℕ × Fault)
family_of text = read_from 1 start (tick_lines text)

-- what an error says: the first bad line and its fault, or nothing if memory ran out
abbrev pub Tells : Result (List Entry) (ℕ × Fault) → FamilyErr → Type 0
Tells read (BadLine n fault) = read ≡ Err (n, fault)
Tells read NoMemory = Unit {0}
