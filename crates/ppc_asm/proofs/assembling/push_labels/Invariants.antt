use Rattle.std.proofs.Common.{◌≡◌, ℕ, ◌+◌, ◌≤◌, List, ◌++◌, length, map, filter, take}
use Rattle.asm_lines.specs.Drafts.{Has}
use Rattle.ppc_asm.specs.Assembly.{label_symbol, binding_of, is_chosen, Numbers}
use Rattle.ppc_asm.proofs.assembling.push_labels.Given as goal

abbrev pub invariant-loop-label : goal.invariant-loop-label
invariant-loop-label l = record {
  list : (names : List (List ℕ)) → Has l.global names
      → l.symbols.list.items ≡ l.fn.symbols.list.items ++ map (label_symbol (binding_of l.binding)) (filter (is_chosen names l.binding) (take l.label-index l.labels));
  few : length l.symbols.list.items ≤ length l.fn.symbols.list.items + l.label-index;
  numbers : Numbers l.fn.symbols.numbers l.fn.symbols.list.items → Numbers l.symbols.numbers l.symbols.list.items;
}
