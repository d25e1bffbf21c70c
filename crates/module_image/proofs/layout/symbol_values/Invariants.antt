use Rattle.std.proofs.Common.{◌≡◌, ◌≤◌, ◌+◌, ◌*◌, ◌++◌, drop}
use Rattle.module_image.specs.Layout.{values_from, longest_step}
use Rattle.module_image.proofs.layout.symbol_values.Given as goal

abbrev pub invariant-loop-i : goal.invariant-loop-i
invariant-loop-i l = record {
  within : l.end ≤ l.start + l.i * longest_step;
  made : l.list.items ++ values_from l.places l.at l.end (drop l.i l.symbols) ≡ values_from l.places l.at l.start l.symbols;
}
