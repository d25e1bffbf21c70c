-- What a line of a family asks for.
use Rattle.std.specs.Prelude.{ℕ, if◌then◌else◌, List, ◌++◌, length, take, drop, ◌-◌, Result, Ok, Err, codes}
use Rattle.std.specs.Str.{bytes_eq}
use Rattle.tick_file.specs.declared.event.Rule.{Rule}
use Rattle.tick_file.specs.declared.event.Rule.TheVariants as rules
use Rattle.tick_file.specs.declared.event.Said.{Said}
use Rattle.tick_file.specs.declared.event.Said.TheVariants as said_of
use Rattle.tick_file.specs.Grammar.{first_word, after_word, said}
use Rattle.tick_family.specs.declared.times.Times.{Times}
use Rattle.tick_family.specs.declared.fault.Fault.{Fault}
use Rattle.tick_family.specs.declared.fault.Fault.TheVariants.{NotUnderstood}
use Rattle.tick_family.specs.declared.entry.Entry.{Entry}
use Rattle.tick_family.specs.declared.entry.Entry.TheVariants.{Once, Every, Shift}
use Rattle.tick_family.specs.declared.entry.Content.{Content}
use Rattle.tick_family.specs.declared.entry.Content.TheVariants.{Nothing, Asks, Bad}
use Rattle.tick_family.specs.Times.{one_time, times_of, before_byte}

-- a rule of a tick file, which has no range
abbrev pub plain : Rule → Entry
plain (rules.At time event) = Once (one_time time) event
plain (rules.Every period count event) = Every period count event

-- the line with the first number of its range in the place of the range, which is its second word
abbrev pub with_first : List ℕ → List ℕ
with_first line =
    let rest = after_word line in
    let range = first_word rest in
    take (length line - length rest) line ++ (before_byte 46 range ++ drop (length range) rest)

-- a line whose second word names these times, and which says this with the first of them in their place
abbrev pub ranged : Said → Result Times Fault → Content
ranged (said_of.Says (rules.At time event)) (Ok times) = Asks (Once times event)
ranged (said_of.Says (rules.At time event)) (Err fault) = Bad fault
ranged (said_of.Says (rules.Every period count event)) times = Bad NotUnderstood
ranged said_of.Nothing times = Bad NotUnderstood
ranged said_of.Outside times = Bad NotUnderstood

-- a line `shift` that names these times
abbrev pub shifting : Result Times Fault → Content
shifting (Ok times) = Asks (Shift times)
shifting (Err fault) = Bad fault

-- a line that isn't one of a tick file: a shift, or a line with a range
abbrev pub beyond : List ℕ → Content
beyond line = if bytes_eq (first_word line) (codes "shift") then shifting (times_of (after_word line)) else ranged (said (with_first line)) (times_of (first_word (after_word line)))

-- a line of a tick file asks for the same in a family
abbrev pub content_by : List ℕ → Said → Content
content_by line said_of.Nothing = Nothing
content_by line (said_of.Says rule) = Asks (plain rule)
content_by line said_of.Outside = beyond line

-- what a line of a family asks for
unfoldable pub content_of : List ℕ → Content
content_of line = content_by line (said line)
