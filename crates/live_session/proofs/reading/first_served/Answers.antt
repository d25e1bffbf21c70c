use Rattle.std.proofs.Common.{arith}
use Rattle.live_session.proofs.Cuts.{none_served, short_served}
use Rattle.live_session.proofs.reading.first_served.Goals as goal

pub returns-in_default : goal.returns-in_default
returns-in_default c = none_served c.args.left c.args.events.now c.in_default.ensures.cases

pub returns-else-bytes_asked-left : goal.returns-else-bytes_asked-left
returns-else-bytes_asked-left c = short_served c.args.left c.args.events.now c.in-Some.first.now c.in-Some.more.now c.in-Some.ensures.cases.0 (omega (arith, c.bytes_asked.ensures))
