use Rattle.wind_session.proofs.Putting.{put_silent}
use Rattle.wind_session.proofs.output.OutputTeller.burst.Goals as goal

pub returns-clause-tells : goal.returns-clause-tells
returns-clause-tells g c = λ first now said s i here put. put_silent c.silent_law.ensures first now said s _ _ i c.burst.result here c.burst.ensures.made put
