use Rattle.std.proofs.Common.{◌≡◌, ◌++◌, drop}
use Rattle.module_image.specs.Binding.{unbound}
use Rattle.module_image.proofs.making.unbound_names.Given as goal

abbrev pub invariant-loop-y : goal.invariant-loop-y
invariant-loop-y l = l.list.items ++ unbound l.syms.list (drop l.y-index l.symbols) ≡ unbound l.syms.list l.symbols
