use Rattle.trace_session.proofs.Selecting.{all_of_it}
use Rattle.trace_session.proofs.laws.everything_law.Goals as goal

pub returns : goal.returns
returns c = all_of_it
