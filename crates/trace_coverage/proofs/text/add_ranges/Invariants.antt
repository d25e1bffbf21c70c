use Rattle.std.proofs.Common.{◌≡◌, ◌+◌, ◌*◌, ◌++◌, None, drop}
use Rattle.trace_coverage.specs.Text.{range_lines, ranges_from}
use Rattle.trace_coverage.proofs.text.add_ranges.Given as goal

-- the lines of the ranges that ended were added; the next word is at this address
abbrev pub invariant-loop-is_executed : goal.invariant-loop-is_executed
invariant-loop-is_executed l = record {
  place : l.at ≡ l.fn.start + 4 * l.is_executed-index;
  lines :
      l.text.items ++ range_lines (ranges_from l.begun l.at (drop l.is_executed-index l.words))
      ≡ l.initial.text.items ++ range_lines (ranges_from None l.fn.start l.words);
}
