use Rattle.std.proofs.Common.{◌≡◌, ◌≤◌, ◌+◌, ◌*◌, drop}
use Rattle.module_image.specs.Layout.{commons_end, longest_step}
use Rattle.module_image.proofs.layout.find_commons.Given as goal

abbrev pub invariant-loop-i : goal.invariant-loop-i
invariant-loop-i l = record {
  within : l.end ≤ l.start + l.i * longest_step;
  rest : commons_end l.end (drop l.i l.symbols) ≡ commons_end l.start l.symbols;
}
