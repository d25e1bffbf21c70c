-- The members of a family: each chooses one number from each range.
use Rattle.std.specs.Prelude.{ℕ, zero, suc, ◌+◌, ◌*◌, ◌/◌, ◌%◌, Bool, List, [], ◌∷◌, ◌++◌}
use Rattle.std.specs.Ordering.{is_lt, nat_cmp}
use Rattle.id_table.specs.Sorting.{sorted}
use Rattle.tick_file.specs.declared.event.Event.{Event}
use Rattle.tick_file.specs.Writing.{recorded}
use Rattle.tick_family.specs.declared.entry.Entry.{Entry}
use Rattle.tick_family.specs.declared.entry.Entry.TheVariants.{Once, Every, Shift}
use Rattle.tick_family.specs.Times.{time_at}

-- how many numbers an entry can choose from
abbrev pub choices : Entry → ℕ
choices (Once times event) = times.count
choices (Every period count event) = 1
choices (Shift times) = times.count

-- how many members a family of these entries has
abbrev pub members_of : List Entry → ℕ
members_of [] = 1
members_of (x ∷ xs) = choices x * members_of xs

-- for each entry the place of the number that member i chooses, counted from 0; the last entry's place changes fastest
abbrev pub choice_of : List Entry → ℕ → List ℕ
choice_of [] i = []
choice_of (x ∷ xs) i = i / members_of xs ∷ choice_of xs (i % members_of xs)

-- the shift below an entry that chooses number k
abbrev pub shift_below : ℕ → Entry → ℕ → ℕ
shift_below shift (Once times event) k = shift
shift_below shift (Every period count event) k = shift
shift_below shift (Shift times) k = time_at times k

-- `count` events, the first after k periods, all moved by a shift
abbrev pub periodic : ℕ → ℕ → Event → ℕ → ℕ → List (ℕ × Event)
periodic shift period event k zero = []
periodic shift period event k (suc count) = (k * period + shift, event) ∷ periodic shift period event (suc k) count

-- the events of an entry that chooses number k, under a shift
abbrev pub entry_events : ℕ → Entry → ℕ → List (ℕ × Event)
entry_events shift (Once times event) k = (time_at times k + shift, event) ∷ []
entry_events shift (Every period count event) k = periodic shift period event 1 count
entry_events shift (Shift times) k = []

-- the events of entries that choose these numbers, in the order of the lines
abbrev pub chosen_events : ℕ → List Entry → List ℕ → List (ℕ × Event)
chosen_events shift [] ks = []
chosen_events shift (x ∷ xs) [] = []
chosen_events shift (x ∷ xs) (k ∷ ks) = entry_events shift x k ++ chosen_events (shift_below shift x k) xs ks

-- the one event is earlier than the other
abbrev pub earlier : ℕ × Event → ℕ × Event → Bool
earlier a b = is_lt (nat_cmp a.0 b.0)

-- the events of member i, by time; those at the same time are in the order of their lines
unfoldable pub member_events : List Entry → ℕ → List (ℕ × Event)
member_events xs i = sorted earlier (chosen_events 0 xs (choice_of xs i))

-- the tick file of member i: one line for each event
abbrev pub member_text : List Entry → ℕ → List ℕ
member_text xs i = recorded (member_events xs i)
