use Rattle.std.proofs.Common.{◌≡◌, ◌+◌, ◌≤◌, [], length, map}
use Rattle.wind_link.specs.Lists.{lines_of, most_lines, rows_after}
use Rattle.wind_link.specs.Rows.{row}
use Rattle.wind_link.proofs.list.rows.Given as goal

abbrev pub invariant-loop-rest : goal.invariant-loop-rest
invariant-loop-rest l = record {
  rows : rows_after (map row l.rows.items) (lines_of l.rest) ≡ rows_after [] (lines_of l.text);
  most : length l.rows.items ≤ most_lines;
  few : length l.rows.items + length l.rest ≤ length l.text;
}

abbrev pub decreases-loop-rest : goal.decreases-loop-rest
decreases-loop-rest l = length l.rest
