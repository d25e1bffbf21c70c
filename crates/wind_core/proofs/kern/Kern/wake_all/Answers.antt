use Rattle.std.proofs.Common.{◌∙◌, arith, ap, length}
use Rattle.wind_core.proofs.Waking.{woken_first, length-waiters}
use Rattle.wind_core.proofs.kern.Kern.wake_all.Goals as goal

pub end_wait-requires : goal.end_wait-requires
end_wait-requires c =
    let woken = woken_first c.loop-who.self c.args.place c.args.answer c.args.errno c.in-Some.who c.in-Some.ensures.sound.rising c.in-Some.ensures.first in
    record {
      live = woken.lives;
      since = omega (arith, length-waiters c.args.self.now.tasks c.args.place, c.self.invariant.0.2.few, ap (λ s. length s.tasks) c.self.view_is, c.loop-who.invariant.room, c.requires);
    }

pub loop-who-smaller : goal.loop-who-smaller
loop-who-smaller c =
    let woken = woken_first c.loop-who.self c.args.place c.args.answer c.args.errno c.in-Some.who c.in-Some.ensures.sound.rising c.in-Some.ensures.first in
    rw c.end_wait.ensures (omega (arith, woken.fewer))

pub loop-who-preserved : goal.loop-who-preserved
loop-who-preserved c =
    let woken = woken_first c.loop-who.self c.args.place c.args.answer c.args.errno c.in-Some.who c.in-Some.ensures.sound.rising c.in-Some.ensures.first in
    rw c.end_wait.ensures (record {
      same = woken.same ∙ c.loop-who.invariant.same;
      room = omega (arith, woken.fewer, woken.sinces, c.loop-who.invariant.room);
    })
