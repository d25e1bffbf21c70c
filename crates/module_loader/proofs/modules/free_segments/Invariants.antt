use Rattle.std.proofs.Common.{◌≡◌, drop}
use Rattle.module_loader.specs.Modules.{without_all}
use Rattle.module_loader.proofs.modules.free_segments.Given as goal

abbrev pub invariant-loop-g : goal.invariant-loop-g
invariant-loop-g l = without_all l.part (drop l.g-index l.segments) ≡ without_all l.fn.part l.segments
