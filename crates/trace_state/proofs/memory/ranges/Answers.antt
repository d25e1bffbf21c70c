use Rattle.std.proofs.Common.{◌≡◌, ◌<◌, ◌/◌, length, arith}
use Rattle.trace_state.proofs.Growing.{unit_added}
use Rattle.trace_state.proofs.memory.ranges.Goals as goal

-- one more unit
pub loop-place-preserved : goal.loop-place-preserved
loop-place-preserved c =
    let ram = c.args.ram.now.bytes in
    let place = c.loop-place.place in
    let less : place < length ram / 256 = omega (arith, c.size.ensures, c.loop-place-test.true) in
    let whole : length c.loop-place.unit ≡ 256 = omega arith in
    unit_added ram c.copy_out.new.dst c.loop-place.unit place c.loop-place.ranges c.add_unit.new.self less whole c.copy_out.ensures.bytes c.in_ok-add_unit.ensures c.loop-place.invariant
