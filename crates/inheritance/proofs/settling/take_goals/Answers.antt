use Rattle.std.proofs.Common.{◌<◌, length, ap, ◌∙◌, arith}
use Rattle.wind_core.specs.State.{KernState}
use Rattle.wind_core.proofs.Ids.{ids}
use Rattle.inheritance.proofs.Raising.{since-change_pri}
use Rattle.inheritance.proofs.Iteration.{ids-change_pri, here_lives, one_more}
use Rattle.inheritance.proofs.settling.take_goals.Goals as goal

pub change_pri-requires-clause-live : goal.change_pri-requires-clause-live
change_pri-requires-clause-live c =
    here_lives c.loop-place.k.tasks c.args.k.now.tasks c.loop-place.place c.task_at.result.now c.loop-place.invariant.alike (omega (arith, c.live-place-end.ensures, c.loop-place-test.true)) c.task_at.ensures

pub loop-place-preserved : goal.loop-place-preserved
loop-place-preserved c =
    let r = c.loop-place.k in
    let t = c.task_at.result.now in
    let pri = c.index-goals-place.result in
    let within : c.loop-place.place < length c.args.k.now.tasks = omega (arith, c.live-place-end.ensures, c.loop-place-test.true) in
    record {
      alike = ap (λ (k : KernState). ids k.tasks) c.change_pri.ensures ∙ ids-change_pri r t.id pri ∙ c.loop-place.invariant.alike;
      same = λ goal are. c.change_pri.ensures
          ∙ one_more c.args.k.now r c.args.goals.now c.loop-place.place t pri c.loop-place.invariant.alike within c.task_at.ensures c.index-goals-place.is goal are (c.loop-place.invariant.same goal are);
      room = omega (arith, ap (λ (k : KernState). k.next_since) c.change_pri.ensures, since-change_pri r t.id pri, c.loop-place.invariant.room);
    }
