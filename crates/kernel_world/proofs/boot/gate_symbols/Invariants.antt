use Rattle.std.proofs.Common.{◌≡◌, ◌+◌, ◌≤◌, ◌++◌, drop, length}
use Rattle.wind_base.specs.Boards.{board_rules}
use Rattle.wind_base.specs.Gates.{gates}
use Rattle.module_image.specs.Opening.{gate_symbols}
use Rattle.kernel_world.proofs.boot.gate_symbols.Given as goal

-- the symbols so far and those of the gates that are left are all, and there is room for these
abbrev pub invariant-loop-gate : goal.invariant-loop-gate
invariant-loop-gate l = record {
  list : l.syms.list ++ gate_symbols (board_rules l.board).gates_start (drop l.gate-index l.all) ≡ gate_symbols (board_rules l.board).gates_start gates;
  room : length l.all ≤ l.syms.spare + l.gate-index;
}
