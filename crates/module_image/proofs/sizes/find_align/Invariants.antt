use Rattle.std.proofs.Common.{◌≡◌, drop}
use Rattle.mem_partition.specs.Place.{grain}
use Rattle.module_image.specs.Needs.{align_by}
use Rattle.module_image.proofs.sizes.find_align.Given as goal

abbrev pub invariant-loop-s : goal.invariant-loop-s
invariant-loop-s l = align_by l.kind l.align (drop l.s-index l.shapes) ≡ align_by l.kind grain l.shapes
