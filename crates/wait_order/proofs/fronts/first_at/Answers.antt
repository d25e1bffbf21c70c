use Rattle.std.proofs.Common.{sym}
use Rattle.wait_order.proofs.Places.{front_here, no_front}
use Rattle.wait_order.proofs.fronts.first_at.Goals as goal

pub returns-in-Ok : goal.returns-in-Ok
returns-in-Ok c = sym (front_here c.args.fronts.now c.args.place.now c.in-Ok.at c.index-fronts-at.result c.in-Ok.ensures.found)

pub returns-in-Err : goal.returns-in-Err
returns-in-Err c = sym (no_front c.args.fronts.now c.args.place.now c.in-Err.field-0 c.in-Err.ensures.found)
