use Rattle.std.proofs.Common.{◌≡◌, ◌++◌, drop}
use Rattle.std.specs.Prelude.{map}
use Rattle.std.specs.List.{filter}
use Rattle.text_show.specs.Symbols.{is_shown}
use Rattle.text_show.proofs.symbols.shown.Given as goal

abbrev pub invariant-loop-number : goal.invariant-loop-number
invariant-loop-number l = map (λ s. s.now) l.found.items ++ filter (is_shown l.part) (drop l.number l.symbols.list) ≡ filter (is_shown l.part) l.symbols.list
