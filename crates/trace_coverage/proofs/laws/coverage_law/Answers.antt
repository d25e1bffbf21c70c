use Rattle.trace_coverage.specs.Executed.{executed_after, modules_after}
use Rattle.trace_coverage.proofs.Counting.{lists_executed}
use Rattle.trace_coverage.proofs.laws.coverage_law.Goals as goal

pub returns : goal.returns
returns c = λ said s. lists_executed (modules_after said s) (executed_after said s)
