use Rattle.trace_session.proofs.Counting.{counts_on}
use Rattle.trace_session.proofs.summary.CounterTeller.burst.Goals as goal

pub returns-clause-tells : goal.returns-clause-tells
returns-clause-tells g c = counts_on c.silent_law.ensures c.burst.result _ _ _ _ _ _ c.burst.ensures.tally c.burst.ensures.made c.burst.ensures.watch
