use Rattle.std.proofs.Common.{◌≡◌, ◌+◌, drop}
use Rattle.sweep_table.specs.Runs.{count_at as count_at_lem}
use Rattle.sweep_table.proofs.runs.count_at.Given as goal

-- the members so far, with those of the runs that are left, are all
abbrev pub invariant-loop-run : goal.invariant-loop-run
invariant-loop-run l = l.count + count_at_lem l.place (drop l.run-index l.runs) ≡ count_at_lem l.place l.runs
