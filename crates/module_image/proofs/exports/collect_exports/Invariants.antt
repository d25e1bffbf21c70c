use Rattle.std.proofs.Common.{◌≡◌, ◌++◌, drop}
use Rattle.module_image.specs.Exports.{exports_from}
use Rattle.module_image.proofs.exports.collect_exports.Given as goal

abbrev pub invariant-loop-i : goal.invariant-loop-i
invariant-loop-i l = l.list.items ++ exports_from l.sections l.mode l.id (drop l.i l.symbols) (drop l.i l.values) ≡ exports_from l.sections l.mode l.id l.symbols l.values
