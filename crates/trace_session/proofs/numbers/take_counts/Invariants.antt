use Rattle.std.proofs.Common.{◌≡◌, length, map, take}
use Rattle.trace_session.proofs.numbers.take_counts.Given as goal

-- the first queues are counted
abbrev pub invariant-loop-place : goal.invariant-loop-place
invariant-loop-place g l = l.counts.items ≡ map (λ r. record { queue = r.0; messages = length r.1.held }) (take l.place l.queues.rows)
