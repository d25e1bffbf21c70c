-- The times that a line of a family names: one number, or a range of numbers.
use Rattle.std.specs.Prelude.{ℕ, ◌+◌, ◌-◌, ◌*◌, ◌/◌, ◌==◌, ◌&&◌, nat_lt, if◌then◌else◌, List, [], ◌∷◌, take, drop, Option, None, Some, Result, Ok, Err}
use Rattle.std.specs.List.{position_or_len}
use Rattle.tick_file.specs.Grammar.{word_number}
use Rattle.tick_family.specs.declared.times.Times.{Times}
use Rattle.tick_family.specs.declared.fault.Fault.{Fault}
use Rattle.tick_family.specs.declared.fault.Fault.TheVariants.{NotUnderstood, EndsEarly, StepOfZero}

-- number k of the times, counted from 0
abbrev pub time_at : Times → ℕ → ℕ
time_at t k = t.first + k * t.step

-- the times of a single number
abbrev pub one_time : ℕ → Times
one_time n = record { first = n; step = 1; count = 1 }

-- first, and each step-th number after it, up to last
abbrev pub range_of : ℕ → ℕ → ℕ → Result Times Fault
range_of first last step = if nat_lt last first then Err EndsEarly else if step == 0 then Err StepOfZero
    else Ok (record { first = first; step = step; count = (last - first) / step + 1 })

-- a text before its first byte b, or all of it, and the rest of it from that byte on
abbrev pub before_byte : ℕ → List ℕ → List ℕ
before_byte b text = take (position_or_len (λ x. x == b) text) text

abbrev pub from_byte : ℕ → List ℕ → List ℕ
from_byte b text = drop (position_or_len (λ x. x == b) text) text

-- the times of a number, if there is one
abbrev pub single : Option ℕ → Result Times Fault
single (Some n) = Ok (one_time n)
single None = Err NotUnderstood

-- the range of three numbers, if there are all three
abbrev pub range_in : Option ℕ → Option ℕ → Option ℕ → Result Times Fault
range_in (Some first) (Some last) (Some step) = range_of first last step
range_in (Some first) (Some last) None = Err NotUnderstood
range_in (Some first) None step = Err NotUnderstood
range_in None last step = Err NotUnderstood

-- the step of a range, from what stands after its last number: 1, or the number after a slash
abbrev pub step_in : List ℕ → Option ℕ
step_in [] = Some 1
step_in (slash ∷ digits) = word_number digits

-- the range of a first number and of what stands after the two dots
abbrev pub range_to : Option ℕ → List ℕ → Result Times Fault
range_to first text = range_in first (word_number (before_byte 47 text)) (step_in (from_byte 47 text))

-- the times of a first number and of what stands after it
abbrev pub times_from : Option ℕ → List ℕ → Result Times Fault
times_from first [] = single first
times_from first (b ∷ []) = Err NotUnderstood
times_from first (b ∷ c ∷ text) = if b == 46 && c == 46 then range_to first text else Err NotUnderstood

-- the times that a word names: `N`, `A..B`, or `A..B/S` for each S-th number
unfoldable pub times_of : List ℕ → Result Times Fault
times_of word = times_from (word_number (before_byte 46 word)) (from_byte 46 word)
