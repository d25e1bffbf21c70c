use Rattle.std.proofs.Common.{◌≡◌, ◌++◌, drop}
use Rattle.trace_coverage.specs.Text.{texts_of_gone}
use Rattle.trace_coverage.proofs.text.add_gone.Given as goal

abbrev pub invariant-loop-covered : goal.invariant-loop-covered
invariant-loop-covered l =
    l.text.items ++ texts_of_gone l.modules.rows (drop l.covered-index l.list) ≡ l.initial.text.items ++ texts_of_gone l.modules.rows l.list
