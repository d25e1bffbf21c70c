use Rattle.std.proofs.Common.{◌≤◌, length}
use Rattle.wait_order.specs.Inside.{waiters_in, IsAfter}
use Rattle.wait_order.proofs.runs.place_of.Given as goal

-- all waiters passed so far precede the new one
abbrev pub invariant-loop-passed : goal.invariant-loop-passed
invariant-loop-passed l = (b : IsAfter (waiters_in l.waiters.chains) l.next l.waiter) × (l._passed ≤ length b.prefix)
