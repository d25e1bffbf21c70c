use Rattle.std.proofs.Common.{arith}
use Rattle.sweep_table.specs.declared.runs.Run.{Run}
use Rattle.sweep_table.proofs.RunLemmas.{first_here}
use Rattle.sweep_table.proofs.runs.first_at.Goals as goal

pub overflow_add-first : goal.overflow_add-first
overflow_add-first c =
    let none : Run = record { length = 0; place = 0 } in
    omega (arith, first_here c.args.place c.args.runs.now c.loop-run.run-index c.loop-run.first none c.loop-run-test.true c.if-run-place.false c.loop-run.invariant)
