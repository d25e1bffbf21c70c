use Rattle.std.proofs.Common.{◌≡◌, ◌≤◌, ◌++◌, length}
use Rattle.std.specs.Prelude.{reverse}
use Rattle.std.specs.List.{All}
use Rattle.symbol_table.specs.State.{HasName}
use Rattle.module_loader.proofs.commit.add_all.Given as goal

abbrev pub invariant-loop-s : goal.invariant-loop-s
invariant-loop-s l = record {
  room : length l.list.items ≤ l.syms.spare;
  named : All HasName l.list.items;
  rest : l.syms.list ++ reverse l.list.items ≡ l.fn.syms.list ++ l.fn.list.items;
}

abbrev pub decreases-loop-s : goal.decreases-loop-s
decreases-loop-s l = length l.list.items
