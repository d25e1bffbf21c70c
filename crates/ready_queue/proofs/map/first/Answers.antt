use Rattle.ready_queue.proofs.Bits.{least_marked}
use Rattle.ready_queue.proofs.map.first.Goals as goal

pub returns-in-Some : goal.returns-in-Some
returns-in-Some c = least_marked c.args.words.now c.loop-place.place c.in-Some.bit c.told-words c.loop-place-test.true c.in-Some.ensures c.loop-place.invariant
