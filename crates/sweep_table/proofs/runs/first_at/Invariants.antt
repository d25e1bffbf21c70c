use Rattle.std.proofs.Common.{◌≡◌, ◌+◌, drop}
use Rattle.sweep_table.specs.Runs.{first_at as first_at_lem}
use Rattle.sweep_table.proofs.runs.first_at.Given as goal

-- none of the runs so far has the outcome
abbrev pub invariant-loop-run : goal.invariant-loop-run
invariant-loop-run l = l.first + first_at_lem l.place (drop l.run-index l.runs) ≡ first_at_lem l.place l.runs
