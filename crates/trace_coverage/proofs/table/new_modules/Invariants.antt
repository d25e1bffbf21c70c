use Rattle.std.proofs.Common.{◌≡◌, ◌++◌, ◌-◌, map, not}
use Rattle.std.specs.List.{filter}
use Rattle.trace_coverage.proofs.Walking.{rows_above}
use Rattle.trace_coverage.specs.Covered.{is_among, unexecuted}
use Rattle.trace_coverage.proofs.table.new_modules.Given as goal

-- the modules up to the last id were looked at
abbrev pub invariant-loop-id : goal.invariant-loop-id
invariant-loop-id l =
    l.new.items ++ map unexecuted (filter (λ r. not (is_among l.list r)) (rows_above l.last l.modules.rows))
    ≡ map unexecuted (filter (λ r. not (is_among l.list r)) l.modules.rows)

abbrev pub decreases-loop-id : goal.decreases-loop-id
decreases-loop-id l = 1048576 - l.last
