use Rattle.std.proofs.Common.{◌≡◌, ◌*◌, drop}
use Rattle.module_image.specs.Layout.{ends_by, no_ends, AreWithin, longest_step}
use Rattle.module_image.proofs.layout.find_ends.Given as goal

abbrev pub invariant-loop-i : goal.invariant-loop-i
invariant-loop-i l = record {
  within : AreWithin l.ends (l.i * longest_step);
  rest : ends_by l.ends (drop l.i l.shapes) ≡ ends_by no_ends l.shapes;
}
