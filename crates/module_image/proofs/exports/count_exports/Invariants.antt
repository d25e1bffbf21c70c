use Rattle.std.proofs.Common.{◌≡◌, ◌≤◌, ◌+◌, drop}
use Rattle.module_image.specs.Exports.{export_count}
use Rattle.module_image.proofs.exports.count_exports.Given as goal

abbrev pub invariant-loop-i : goal.invariant-loop-i
invariant-loop-i l = record {
  within : l.count ≤ l.i;
  rest : l.count + export_count l.mode (drop l.i l.symbols) ≡ export_count l.mode l.symbols;
}
