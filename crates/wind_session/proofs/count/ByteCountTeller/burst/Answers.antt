use Rattle.std.proofs.Common.{arith}
use Rattle.wind_session.proofs.Continuing.{burst_counted}
use Rattle.wind_session.proofs.Putting.{count_silent}
use Rattle.wind_session.proofs.count.ByteCountTeller.burst.Goals as goal

pub returns-clause-tells : goal.returns-clause-tells
returns-clause-tells g c = λ first now said s i here counted. count_silent c.silent_law.ensures first now said s _ _ i c.burst.result here c.burst.ensures.made _ counted

pub returns-clause-ready : goal.returns-clause-ready
returns-clause-ready g c = omega (arith, c.requires.told, burst_counted c.silent_law.ensures _ _ c.burst.result c.burst.ensures.made)
