use Rattle.trace_state.proofs.Growing.{begins, goes_on}
use Rattle.trace_state.proofs.memory.begun.Goals as goal

pub returns-in-Some : goal.returns-in-Some
returns-in-Some c = λ r holds. goes_on c.args.start c.in-Some.range c.args.start r (rw c.in-Some.is at holds)

pub returns-in-None : goal.returns-in-None
returns-in-None c = λ r holds. begins c.args.start c.new.result c.args.start r (c.new.ensures c.args.start) (rw c.in-None.is at holds)
