use Rattle.std.proofs.Common.{length}
use Rattle.live_session.proofs.Cuts.{Reading}
use Rattle.live_session.proofs.reading.events_of.Given as goal

-- the events so far, and those that come
abbrev pub invariant-loop-time : goal.invariant-loop-time
invariant-loop-time l = Reading l.lines l.rest l.events.items l.least l.schedule.events

abbrev pub decreases-loop-time : goal.decreases-loop-time
decreases-loop-time l = length l.schedule.events
