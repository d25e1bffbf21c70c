use Rattle.std.proofs.Common.{◌+◌, ◌*◌, ◌≤◌, List, length, drop}
use Rattle.symbol_table.specs.declared.symbol.Symbol.{Symbol}
use Rattle.module_image.specs.Binding.{unbound}
use Rattle.live_loading.specs.Texts.{undefined_text}
use Rattle.live_loading.proofs.text.undefined_room.Given as goal

-- the bytes so far are enough for the lines of the symbols seen so far
abbrev pub invariant-loop-symbol : goal.invariant-loop-symbol
invariant-loop-symbol l = record {
  most : l.room ≤ 274 * l.symbol-index;
  enough : (tab : List Symbol) → length (undefined_text (unbound tab l.m.symbols)) ≤ l.room + length (undefined_text (unbound tab (drop l.symbol-index l.m.symbols)));
}
