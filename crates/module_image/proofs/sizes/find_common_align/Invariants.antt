use Rattle.std.proofs.Common.{◌≡◌, drop}
use Rattle.module_image.specs.Needs.{common_align}
use Rattle.module_image.proofs.sizes.find_common_align.Given as goal

abbrev pub invariant-loop-y : goal.invariant-loop-y
invariant-loop-y l = common_align l.align (drop l.y-index l.symbols) ≡ common_align l.start l.symbols
