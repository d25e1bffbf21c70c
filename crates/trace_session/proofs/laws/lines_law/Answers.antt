use Rattle.trace_session.proofs.LineLaws.{lines_law}
use Rattle.trace_session.proofs.laws.lines_law.Goals as goal

pub returns : goal.returns
returns c = lines_law
