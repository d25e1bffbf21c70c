use Rattle.std.proofs.Common.{◌∙◌, arith, ap, length}
use Rattle.wind_core.proofs.Waking.{length-due}
use Rattle.wind_core.proofs.Ticks.{late_woken}
use Rattle.wind_core.proofs.kern.Kern.wake_due.Goals as goal

pub time_out-requires-clause-live : goal.time_out-requires-clause-live
time_out-requires-clause-live c = (late_woken c.loop-late.self c.args.tick c.in-Some.late c.in-Some.ensures.sound.rising c.in-Some.ensures.first).lives

pub time_out-requires-clause-since : goal.time_out-requires-clause-since
time_out-requires-clause-since c =
    omega (arith, length-due c.args.self.now.tasks c.args.tick, c.self.invariant.0.2.few, ap (λ s. length s.tasks) c.self.view_is, c.loop-late.invariant.room, c.requires.since)

pub loop-late-smaller : goal.loop-late-smaller
loop-late-smaller c =
    let woken = late_woken c.loop-late.self c.args.tick c.in-Some.late c.in-Some.ensures.sound.rising c.in-Some.ensures.first in
    rw c.time_out.ensures (omega (arith, woken.fewer))

pub loop-late-preserved : goal.loop-late-preserved
loop-late-preserved c =
    let woken = late_woken c.loop-late.self c.args.tick c.in-Some.late c.in-Some.ensures.sound.rising c.in-Some.ensures.first in
    rw c.time_out.ensures (record {
      same = woken.same ∙ c.loop-late.invariant.same;
      tick = woken.tick ∙ c.loop-late.invariant.tick;
      room = omega (arith, woken.fewer, woken.sinces, c.loop-late.invariant.room);
    })
