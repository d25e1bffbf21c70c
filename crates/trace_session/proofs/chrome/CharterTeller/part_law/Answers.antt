use Rattle.trace_session.proofs.Charting.{charted_part}
use Rattle.trace_session.proofs.chrome.CharterTeller.part_law.Goals as goal

pub returns : goal.returns
returns c = λ first now said next s i same charts. charted_part _ _ first.bytes now.bytes _ said next s i same charts
