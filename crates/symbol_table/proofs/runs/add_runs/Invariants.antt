use Rattle.std.proofs.Common.{◌≡◌, length}
use Rattle.std.specs.Prelude.{vec_capacity}
use Rattle.symbol_table.specs.Runs.{AreRuns}
use Rattle.symbol_table.proofs.runs.add_runs.Given as goal

abbrev pub invariant-loop-n : goal.invariant-loop-n
invariant-loop-n l = record {
  runs : AreRuns l.list l.runs.items;
  count : length l.runs.items ≡ l.n;
  capacity : vec_capacity l.runs ≡ vec_capacity l.fn.runs;
}
