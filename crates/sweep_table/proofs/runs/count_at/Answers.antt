use Rattle.std.proofs.Common.{arith}
use Rattle.sweep_table.specs.declared.runs.Run.{Run}
use Rattle.sweep_table.proofs.RunLemmas.{count_here}
use Rattle.sweep_table.proofs.runs.count_at.Goals as goal

pub overflow_add-count : goal.overflow_add-count
overflow_add-count c =
    let none : Run = record { length = 0; place = 0 } in
    omega (arith, count_here c.args.place c.args.runs.now c.loop-run.run-index c.loop-run.count none c.loop-run-test.true c.if-run-place.true c.loop-run.invariant)
