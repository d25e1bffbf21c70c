use Rattle.std.proofs.Common.{◌≡◌, drop}
use Rattle.wind_base.specs.declared.board_kind.Side.TheVariants.{Low}
use Rattle.mem_partition.specs.Holes.{hole_on}
use Rattle.mem_partition.proofs.hole.first_with_room.Given as goal

abbrev pub invariant-loop-hole : goal.invariant-loop-hole
invariant-loop-hole l = hole_on Low l.size l.align (drop l.hole-index l.list) ≡ hole_on Low l.size l.align l.list
