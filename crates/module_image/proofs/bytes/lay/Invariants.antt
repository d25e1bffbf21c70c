use Rattle.std.proofs.Common.{◌≡◌, ◌≤◌, ◌*◌, ◌++◌, drop}
use Rattle.module_image.specs.Layout.{longest_step}
use Rattle.module_image.specs.Image.{laid}
use Rattle.module_image.proofs.bytes.lay.Given as goal

abbrev pub invariant-loop-s : goal.invariant-loop-s
invariant-loop-s l = record {
  within : l.from ≤ l.s-index * longest_step;
  made : l.out.items ++ laid l.kind l.from (drop l.s-index l.sections) ≡ l.fn.out.items ++ laid l.kind 0 l.sections;
}
