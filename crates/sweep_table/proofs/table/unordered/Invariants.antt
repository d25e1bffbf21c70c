use Rattle.std.proofs.Common.{◌≡◌}
use Rattle.sweep_table.specs.Table.{rows_below}
use Rattle.sweep_table.proofs.table.unordered.Given as goal

-- the rows of the outcomes so far were made
abbrev pub invariant-loop-place : goal.invariant-loop-place
invariant-loop-place l = l.rows.items ≡ rows_below l.place l.known l.runs
