use Rattle.linked_lists.specs.Chains.{chain_at}
use Rattle.delay_queue.proofs.Waiting.{Passed}
use Rattle.delay_queue.proofs.gaps.search.Given as goal

-- the given number was passed, and their wakes are at most this one
abbrev pub invariant-loop-passed : goal.invariant-loop-passed
invariant-loop-passed l = Passed (chain_at l.tasks.chains 0) l.wake l.next l.left l._passed
