use Rattle.std.proofs.Common.{arith}
use Rattle.inheritance.proofs.Lending.{come_none, come_more, come_all}
use Rattle.inheritance.proofs.settling.put_goals.Goals as goal

pub loop-place-init : goal.loop-place-init
loop-place-init c = come_none c.args.k.now.tasks c.args.mutexes.now.rows c.owners-steps.result c.put_normals.new.goals c.facts.ensures.rising c.put_normals.ensures

pub loop-place-preserved : goal.loop-place-preserved
loop-place-preserved c =
    come_more c.args.k.now.tasks c.args.mutexes.now.rows c.owners-steps.result c.loop-place.place c.task_at-task.result.now c.loop-place.goals c.lend.new.goals c.facts.ensures.rising
    (omega (arith, c.live-place-end.ensures, c.loop-place-test.true)) c.task_at-task.ensures c.loop-place.invariant c.lend.ensures

pub returns : goal.returns
returns c =
    come_all c.args.k.now c.args.mutexes.now.rows c.owners-steps.result c.loop-place.place c.loop-place.goals c.facts.ensures c.requires.owners c.owners-steps.ensures
    (omega (arith, c.live-place-end.ensures, c.loop-place-test.false)) c.loop-place.invariant
