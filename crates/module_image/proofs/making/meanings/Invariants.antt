use Rattle.std.proofs.Common.{◌≡◌, ◌++◌, ◌∷◌, drop}
use Rattle.module_image.specs.Binding.{bind}
use Rattle.module_image.specs.Image.{meanings_from}
use Rattle.module_image.proofs.making.meanings.Given as goal

abbrev pub invariant-loop-i : goal.invariant-loop-i
invariant-loop-i l =
    l.list.items ++ meanings_from (bind l.syms.list) (drop l.i l.symbols) (drop l.i l.values)
    ≡ 0 ∷ meanings_from (bind l.syms.list) l.symbols l.values
