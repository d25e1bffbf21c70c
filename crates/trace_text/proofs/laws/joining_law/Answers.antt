use Rattle.trace_text.proofs.Joining.{joining}
use Rattle.trace_text.proofs.laws.joining_law.Goals as goal

pub returns : goal.returns
returns c = joining
