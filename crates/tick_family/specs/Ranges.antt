-- The ranges of a family, and what a member chooses from each.
use Rattle.std.specs.Prelude.{ℕ, nat_lt, if◌then◌else◌, List, [], ◌∷◌, ◌++◌, Option, None, Some}
use Rattle.tick_family.specs.declared.entry.Entry.{Entry}
use Rattle.tick_family.specs.declared.entry.Entry.TheVariants.{Once, Every, Shift}
use Rattle.tick_family.specs.declared.times.Times.{Times}
use Rattle.tick_family.specs.Times.{time_at}

-- times, if there is more than one
abbrev pub if_range : Times → Option Times
if_range times = if nat_lt 1 times.count then Some times else None

-- the times of an entry, if it has more than one
abbrev pub range_in : Entry → Option Times
range_in (Once times event) = if_range times
range_in (Every period count event) = None
range_in (Shift times) = if_range times

abbrev pub before_range : Option Times → List Times → List Times
before_range None ranges = ranges
before_range (Some times) ranges = times ∷ ranges

-- the ranges of entries, in order
abbrev pub ranges_in : List Entry → List Times
ranges_in [] = []
ranges_in (x ∷ xs) = before_range (range_in x) (ranges_in xs)

-- the time of a range at a place
abbrev pub time_in : Option Times → ℕ → List ℕ
time_in None k = []
time_in (Some range) k = time_at range k ∷ []

-- the time that an entry chooses, if it has more than one
abbrev pub chosen_time : Entry → ℕ → List ℕ
chosen_time x k = time_in (range_in x) k

-- the time chosen from each range, if each entry chooses the number at its place
abbrev pub chosen_times : List Entry → List ℕ → List ℕ
chosen_times [] ks = []
chosen_times (x ∷ xs) [] = []
chosen_times (x ∷ xs) (k ∷ ks) = chosen_time x k ++ chosen_times xs ks
