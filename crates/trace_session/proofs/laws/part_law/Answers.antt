use Rattle.trace_session.proofs.Parting.{parts_are}
use Rattle.trace_session.proofs.laws.part_law.Goals as goal

pub returns : goal.returns
returns c = parts_are c.step_law.ensures.count
