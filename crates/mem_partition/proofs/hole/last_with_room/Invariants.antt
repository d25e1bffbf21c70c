use Rattle.std.proofs.Common.{◌≡◌, drop, None}
use Rattle.wind_base.specs.declared.board_kind.Side.TheVariants.{High}
use Rattle.mem_partition.specs.Holes.{hole_on}
use Rattle.mem_partition.proofs.hole.last_with_room.Given as goal

abbrev pub invariant-loop-i : goal.invariant-loop-i
invariant-loop-i l = hole_on High l.size l.align (drop l.i l.list) ≡ None
