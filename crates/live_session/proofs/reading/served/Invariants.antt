use Rattle.std.proofs.Common.{length}
use Rattle.live_session.proofs.Cuts.{Serving}
use Rattle.live_session.proofs.reading.served.Given as goal

-- the events that were served, and those that are left
abbrev pub invariant-loop-first : goal.invariant-loop-first
invariant-loop-first l = Serving l.len l.events l.rest l.ticks.items l.bytes l.last

abbrev pub decreases-loop-first : goal.decreases-loop-first
decreases-loop-first l = length l.rest
