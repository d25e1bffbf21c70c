use Rattle.std.proofs.Common.{◌≡◌, [], drop, sym, ap, ◌∙◌, length, arith}
use Rattle.std.proofs.lemmas.List.{drop_all}
use Rattle.wind_base.specs.Limits.{gates_start}
use Rattle.wind_base.specs.Gates.{gates}
use Rattle.symbol_table.specs.Newest.{find_global}
use Rattle.module_image.specs.Opening.{gate_symbols}
use Rattle.wind_link.specs.Values.{entry_of, entry_else}
use Rattle.wind_link.proofs.Exporting.{after_gate}
use Rattle.wind_link.proofs.values.Values.opening.Goals as goal

pub loop-gate-preserved : goal.loop-gate-preserved
loop-gate-preserved c = λ q.
    after_gate gates_start gates c.all-gate-items.result.now c.loop-gate.gate-index _ q (entry_of c.loop-gate.values q) (entry_of c.add_gate.new.self q)
    c.all-gate-items.ensures c.loop-gate-test.true (c.in_ok-add_gate.ensures q)
    ∙ c.loop-gate.invariant q

pub returns : goal.returns
returns c = λ q.
    let none : drop c.loop-gate.gate-index gates ≡ [] = drop_all c.loop-gate.gate-index gates (omega (arith, c.loop-gate-test.false, ap length c.all-gate-items.ensures)) in
    ap (λ gs. entry_else (find_global (gate_symbols gates_start gs) q) (entry_of c.loop-gate.values q)) (sym none)
    ∙ c.loop-gate.invariant q
