use Rattle.std.proofs.Common.{◌≡◌, ℕ, ◌<◌, false}
use Rattle.std.specs.Str.{bytes_eq}
use Rattle.sweep_table.specs.Runs.{outcome_at}
use Rattle.sweep_table.proofs.tally.place_of.Given as goal

-- none of the outcomes so far is this one
abbrev pub invariant-loop-place : goal.invariant-loop-place
invariant-loop-place l = (k : ℕ) → k < l.place → bytes_eq (outcome_at l.known k) l.outcome ≡ false
