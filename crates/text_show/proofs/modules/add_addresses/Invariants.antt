use Rattle.std.proofs.Common.{◌≡◌, ◌++◌, drop}
use Rattle.std.specs.Prelude.{map}
use Rattle.text_show.specs.Columns.{row_rest}
use Rattle.text_show.specs.Modules.{segment_cell}
use Rattle.text_show.proofs.modules.add_addresses.Given as goal

abbrev pub invariant-loop-segment : goal.invariant-loop-segment
invariant-loop-segment l = l.page.items ++ row_rest (map segment_cell (drop l.segment-index l.segments)) ≡ l.initial.page.items ++ row_rest (map segment_cell l.segments)
