use Rattle.std.proofs.Common.{◌-◌, sym, ◌∙◌, arith}
use Rattle.mem_partition.proofs.Places.{found_down}
use Rattle.mem_partition.proofs.hole.last_with_room.Goals as goal

pub returns-then-is_some : goal.returns-then-is_some
returns-then-is_some c =
    found_down c.args.size c.args.align c.loop-i.i (c.loop-i.i - 1) c.args.list.now _ c.place_in-at.result
    (omega (arith, c.loop-i.auto.i, c.loop-i-test.true)) (omega (arith, c.loop-i-test.true)) c.loop-i.invariant
    c.place_in-at.ensures (sym c.is_some.ensures ∙ c.if-is_some.true)
