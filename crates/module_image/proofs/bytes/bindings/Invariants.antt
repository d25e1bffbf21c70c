use Rattle.std.proofs.Common.{◌≡◌, ◌++◌, map, drop}
use Rattle.module_image.specs.Image.{binding_of}
use Rattle.module_image.proofs.bytes.bindings.Given as goal

abbrev pub invariant-loop-r : goal.invariant-loop-r
invariant-loop-r l = l.list.items ++ map (binding_of l.places l.at l.means) (drop l.r-index l.relocs) ≡ map (binding_of l.places l.at l.means) l.relocs
