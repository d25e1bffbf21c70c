use Rattle.std.proofs.Common.{ap, ◌∙◌}
use Rattle.trace_coverage.specs.Executed.{executed_by}
use Rattle.trace_coverage.proofs.executed.executed_next.Goals as goal

pub returns : goal.returns
returns g c = c.executed_by.ensures ∙ ap executed_by c.in_ok-before.ensures.value
