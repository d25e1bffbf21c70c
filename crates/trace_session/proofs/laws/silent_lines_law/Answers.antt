use Rattle.trace_session.proofs.SilentLines.{silent_lines}
use Rattle.trace_session.proofs.laws.silent_lines_law.Goals as goal

pub returns : goal.returns
returns c = silent_lines c.joining_law.ensures c.silent_law.ensures
