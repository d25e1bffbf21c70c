use Rattle.std.proofs.Common.{◌≡◌, ◌++◌, ◌∷◌, drop}
use Rattle.module_image.specs.Image.{meanings_from}
use Rattle.wind_link.specs.Values.{value_of}
use Rattle.wind_link.proofs.values.Values.meanings.Given as goal

abbrev pub invariant-loop-i : goal.invariant-loop-i
invariant-loop-i l =
    l.list.items ++ meanings_from (value_of l.self) (drop l.i l.symbols) (drop l.i l.values)
    ≡ 0 ∷ meanings_from (value_of l.self) l.symbols l.values
