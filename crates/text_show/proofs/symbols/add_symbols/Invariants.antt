use Rattle.std.proofs.Common.{◌≡◌, ◌++◌, drop}
use Rattle.std.specs.Prelude.{map}
use Rattle.std.specs.List.{flat_map}
use Rattle.text_show.specs.Symbols.{symbol_row}
use Rattle.text_show.proofs.symbols.add_symbols.Given as goal

abbrev pub invariant-loop-symbol : goal.invariant-loop-symbol
invariant-loop-symbol l = l.page.items ++ flat_map symbol_row (map (λ s. s.now) (drop l.symbol-index l.symbols)) ≡ l.initial.page.items ++ flat_map symbol_row (map (λ s. s.now) l.symbols)
