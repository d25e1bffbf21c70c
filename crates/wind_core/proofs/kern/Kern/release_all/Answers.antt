use Rattle.std.proofs.Common.{◌∙◌, arith, ap, length}
use Rattle.wind_core.proofs.Waking.{length-waiters}
use Rattle.wind_core.proofs.Releasing.{freed_first}
use Rattle.wind_core.proofs.kern.Kern.release_all.Goals as goal

pub release-requires : goal.release-requires
release-requires c =
    let freed = freed_first c.loop-who.self c.args.place c.in-Some.who c.in-Some.ensures.sound.rising c.in-Some.ensures.first in
    record {
      live = freed.lives;
      since = omega (arith, length-waiters c.args.self.now.tasks c.args.place, c.self.invariant.0.2.few, ap (λ s. length s.tasks) c.self.view_is, c.loop-who.invariant.room, c.requires);
    }

pub loop-who-smaller : goal.loop-who-smaller
loop-who-smaller c =
    let freed = freed_first c.loop-who.self c.args.place c.in-Some.who c.in-Some.ensures.sound.rising c.in-Some.ensures.first in
    rw c.release.ensures (omega (arith, freed.fewer))

pub loop-who-preserved : goal.loop-who-preserved
loop-who-preserved c =
    let freed = freed_first c.loop-who.self c.args.place c.in-Some.who c.in-Some.ensures.sound.rising c.in-Some.ensures.first in
    rw c.release.ensures (record {
      same = freed.same ∙ c.loop-who.invariant.same;
      room = omega (arith, freed.fewer, freed.sinces, c.loop-who.invariant.room);
    })
