use Rattle.std.proofs.Common.{List, take, arith}
use Rattle.std.specs.Prelude.{nat_lt}
use Rattle.std.proofs.lemmas.List.{length-take-le}
use Rattle.id_table.proofs.Passing.{length-filter}
use Rattle.task_block.specs.declared.task.Task.{Task}
use Rattle.inheritance.proofs.settling.owners.Goals as goal

pub with_owner-count-requires : goal.with_owner-count-requires
with_owner-count-requires c =
    let ts : List Task = take c.loop-place.place c.args.k.now.tasks in
    omega (arith, c.loop-place.invariant, length-filter (λ (t : Task). nat_lt 0 t.held) ts, length-take-le c.loop-place.place c.args.k.now.tasks (omega (arith, c.live-place-end.ensures, c.loop-place-test.true)), c.facts.ensures.few, c.live-place-end.ensures, c.loop-place-test.true)
