use Rattle.std.proofs.Common.{◌≡◌, ◌++◌, drop}
use Rattle.trace_coverage.specs.Text.{modules_text}
use Rattle.trace_coverage.proofs.text.add_modules.Given as goal

abbrev pub invariant-loop-covered : goal.invariant-loop-covered
invariant-loop-covered l =
    l.text.items ++ modules_text (drop l.covered-index l.list) ≡ l.initial.text.items ++ modules_text l.list
