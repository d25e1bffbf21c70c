use Rattle.std.proofs.Common.{◌≡◌, ℕ, List, None, drop}
use Rattle.wind_base.specs.Limits.{gates_start}
use Rattle.wind_base.specs.Gates.{gates}
use Rattle.symbol_table.specs.Newest.{find_global}
use Rattle.module_image.specs.Opening.{gate_symbols}
use Rattle.wind_link.specs.Values.{entry_of, entry_else}
use Rattle.wind_link.proofs.values.Values.opening.Given as goal

abbrev pub invariant-loop-gate : goal.invariant-loop-gate
invariant-loop-gate l = (q : List ℕ) → entry_else (find_global (gate_symbols gates_start (drop l.gate-index gates)) q) (entry_of l.values q)
    ≡ entry_else (find_global (gate_symbols gates_start gates) q) None
