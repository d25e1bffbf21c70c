use Rattle.std.proofs.Common.{◌≡◌, ℕ, ◌+◌, ◌≤◌, List, ◌++◌, length, map, filter, take}
use Rattle.asm_lines.specs.Drafts.{Has}
use Rattle.ppc_asm.specs.Assembly.{undefined_symbol, is_undefined, Numbers}
use Rattle.ppc_asm.proofs.assembling.push_others.Given as goal

abbrev pub invariant-loop-name : goal.invariant-loop-name
invariant-loop-name l = record {
  list : (defined : List (List ℕ)) → Has l.labelled defined
      → l.symbols.list.items ≡ l.fn.symbols.list.items ++ map undefined_symbol (filter (is_undefined defined) (take l.name-index l.names));
  few : length l.symbols.list.items ≤ length l.fn.symbols.list.items + l.name-index;
  numbers : Numbers l.fn.symbols.numbers l.fn.symbols.list.items → Numbers l.symbols.numbers l.symbols.list.items;
}
