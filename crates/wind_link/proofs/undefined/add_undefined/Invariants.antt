use Rattle.std.proofs.Common.{◌≡◌, ◌++◌, map, take}
use Rattle.wind_link.specs.Undefined.{pair_of}
use Rattle.wind_link.specs.Values.{valueless_names}
use Rattle.wind_link.proofs.undefined.add_undefined.Given as goal

-- the undefined names of the symbols so far are added
abbrev pub invariant-loop-symbol : goal.invariant-loop-symbol
invariant-loop-symbol l =
    map pair_of l.names.items ≡ map pair_of l.fn.names.items ++ map (λ name. (l.line, name)) (valueless_names l.values (take l.symbol-index l.symbols))
