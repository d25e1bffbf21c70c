-- Calls that fail by their number.
use Rattle.std.specs.Prelude.{ℕ, ◌+◌, ◌-◌, ◌^◌, List, Bool, min, if◌then◌else◌}

-- the numbers, from 1 on, of the calls that fail; the number of calls made, and the number of failed ones
pub record CallLog : Type 0 where
  pub failing : List ℕ
  pub made : ℕ
  pub faults : ℕ

-- a count after one more; it stops at the greatest number of 64 bits
abbrev pub one_more : ℕ → ℕ
one_more n = min (n + 1) (2 ^ 64 - 1)

-- the log after a call, which failed or didn't
abbrev pub call_counted : CallLog → Bool → CallLog
call_counted log fails = record log { made = one_more log.made; faults = if fails then one_more log.faults else log.faults }
