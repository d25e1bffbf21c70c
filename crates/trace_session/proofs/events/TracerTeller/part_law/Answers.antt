use Rattle.trace_session.proofs.Telling.{part_held}
use Rattle.trace_session.proofs.events.TracerTeller.part_law.Goals as goal

pub returns : goal.returns
returns g c = λ first now said next s i same holds. part_held g.L.LineForm.is_line _ first.bytes now.bytes _ said next s i same holds
