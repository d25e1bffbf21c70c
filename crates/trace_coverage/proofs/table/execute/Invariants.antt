use Rattle.std.proofs.Common.{◌≡◌, ◌++◌, drop, map, take}
use Rattle.trace_coverage.specs.Covered.{with_word}
use Rattle.trace_coverage.proofs.table.execute.Given as goal

-- the first modules were looked at
abbrev pub invariant-loop-place : goal.invariant-loop-place
invariant-loop-place l = l.list ≡ map (with_word l.at) (take l.place l.initial.list) ++ drop l.place l.initial.list
