use Rattle.std.proofs.Common.{◌≡◌, ◌*◌, ◌++◌, drop}
use Rattle.module_image.specs.Layout.{addresses_from, no_ends, AreWithin, longest_step}
use Rattle.module_image.proofs.layout.section_addresses.Given as goal

abbrev pub invariant-loop-i : goal.invariant-loop-i
invariant-loop-i l = record {
  within : AreWithin l.ends (l.i * longest_step);
  made : l.list.items ++ addresses_from l.at l.ends (drop l.i l.sections) ≡ addresses_from l.at no_ends l.sections;
}
