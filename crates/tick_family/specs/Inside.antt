-- What holds of the entries of a family, so that each member is a tick file.
use Rattle.std.specs.Prelude.{ℕ, ◌-◌, ◌≤◌, ◌≡◌, max, Bool, true, false, ◌&&◌, List, [], ◌∷◌, ◌++◌, Option, None, Some, nat_lt, nat_le, if◌then◌else◌, Result, Ok, Err}
use Rattle.std.specs.Fmt.{decimal}
use Rattle.std.specs.List.{All}
use Rattle.wind_base.specs.Limits.{greatest_word, longest_text_file, longest_chunk, most_slots}
use Rattle.tick_file.specs.declared.event.Event.{Event}
use Rattle.tick_file.specs.declared.event.Event.TheVariants.{Tick, Rx, Irq}
use Rattle.tick_family.specs.declared.fault.Fault.{Fault}
use Rattle.tick_family.specs.declared.times.Times.{Times}
use Rattle.tick_family.specs.declared.entry.Entry.{Entry}
use Rattle.tick_family.specs.declared.entry.Entry.TheVariants.{Once, Every, Shift}
use Rattle.tick_family.specs.declared.extent.Extent.{Extent}
use Rattle.tick_family.specs.Times.{time_at}
use Rattle.tick_family.specs.Members.{choices, members_of}
use Rattle.tick_family.specs.Reading.{most_members, start, extended, grown}

-- there is a time, and the last one fits
pub record IsTimes (times : Times) : Type 0 where
  pub some : 1 ≤ times.count
  pub fits : time_at times (times.count - 1) ≤ greatest_word

-- the greatest number that an entry names
abbrev pub greatest_number : Entry → ℕ
greatest_number (Once times event) = time_at times (times.count - 1)
greatest_number (Every period count event) = max period count
greatest_number (Shift times) = time_at times (times.count - 1)

-- a line can ask for the event
abbrev pub in_range : Event → Bool
in_range Tick = true
in_range (Rx bytes) = nat_le 1 bytes && nat_le bytes longest_chunk
in_range (Irq slot) = nat_lt slot most_slots

abbrev pub asks_in_range : Entry → Bool
asks_in_range (Once times event) = in_range event
asks_in_range (Every period count event) = in_range event
asks_in_range (Shift times) = true

-- an entry that a line can have
pub record IsEntry (x : Entry) : Type 0 where
  pub some : 1 ≤ choices x
  pub fits : greatest_number x ≤ greatest_word
  pub event : asks_in_range x ≡ true

-- an extent that is not refused
pub record IsWithin (extent : Extent) : Type 0 where
  pub members : extent.members ≤ most_members
  pub shift : extent.shift ≤ greatest_word
  pub bytes : extent.bytes ≤ longest_text_file

abbrev pub is_accepted : Result Extent Fault → Bool
is_accepted (Ok extent) = true
is_accepted (Err fault) = false

-- none of the entries is refused
abbrev pub are_accepted : Extent → List Entry → Bool
are_accepted extent [] = true
are_accepted extent (x ∷ xs) = is_accepted (grown extent x) && are_accepted (extended extent x) xs

-- the entries of a family that was read, and how many members it has
pub record IsFamily (xs : List Entry) (members : ℕ) : Type 0 where
  pub entries : All IsEntry xs
  pub accepted : are_accepted start xs ≡ true
  pub counted : members ≡ members_of xs

-- entries before others, unless a later line is bad
abbrev pub before_all : List Entry → Result (List Entry) (ℕ × Fault) → Result (List Entry) (ℕ × Fault)
before_all xs (Ok ys) = Ok (xs ++ ys)
before_all xs (Err bad) = Err bad

-- a length that a tick file can have
abbrev pub fitting : ℕ → Option ℕ
fitting n = if nat_lt longest_text_file n then None else Some n

-- a blank and a number, if there is one
abbrev pub number_text : Option ℕ → List ℕ
number_text (Some n) = 32 ∷ decimal n
number_text None = []

-- a number of 32 bits, if there is one
abbrev pub IsSmall : Option ℕ → Type 0
IsSmall (Some n) = n ≤ greatest_word
IsSmall None = Unit {0}
