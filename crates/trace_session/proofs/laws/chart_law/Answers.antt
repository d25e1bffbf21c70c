use Rattle.trace_session.proofs.ChartSpans.{chart_law_of}
use Rattle.trace_session.proofs.laws.chart_law.Goals as goal

pub returns : goal.returns
returns c = chart_law_of c.step_law.ensures.count
