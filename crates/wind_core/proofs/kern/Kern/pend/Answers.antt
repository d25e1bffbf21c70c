use Rattle.std.proofs.Common.{ap, ◌∙◌, refl}
use Rattle.wind_core.specs.Moves.{wake_at, pended, pend}
use Rattle.wind_core.proofs.Writes.{object_lives, renews_to, wake_ahead}
use Rattle.wind_core.proofs.Mending.{renewed_fit, renewed_keeps}
use Rattle.wind_core.specs.Notes.{marks}
use Rattle.wind_core.proofs.Noting.{noted_same}
use Rattle.wind_core.proofs.kern.Kern.pend.Goals as goal

pub object_mut-task-requires : goal.object_mut-task-requires
object_mut-task-requires c = object_lives c.self.inside c.args.self.now c.args.who c.self.invariant.0 c.self.view_is c.requires.live

pub mend-requires : goal.mend-requires
mend-requires c =
    let x = c.object_mut-task.result.now in
    renewed_fit c.self.inside c.args.who c.renew.new.next_since x (pended c.args.place c.args.fifo (wake_at c.args.place.side c.self.inside.tick c.args.timeout) x) c.begin_wait.new.task c.renew.new.task c.self.invariant.0 c.object_mut-task.ensures.value
    refl (λ _. wake_ahead c.args.place.side c.self.inside.tick c.args.timeout c.requires.timeout) c.begin_wait.ensures c.renew.ensures.task c.renew.ensures.next

pub invariant_of-self : goal.invariant_of-self
invariant_of-self c = let x = c.object_mut-task.result.now in (
  renewed_keeps c.self.inside c.args.who c.renew.new.next_since x (pended c.args.place c.args.fifo (wake_at c.args.place.side c.self.inside.tick c.args.timeout) x) c.begin_wait.new.task c.renew.new.task c.self.invariant.0 c.object_mut-task.ensures.value
      refl (λ _. wake_ahead c.args.place.side c.self.inside.tick c.args.timeout c.requires.timeout) c.begin_wait.ensures c.renew.ensures.task c.renew.ensures.next
      c.mend.new.waits c.mend.new.ready c.mend.new.delays c.mend.ensures.waits c.mend.ensures.ready c.mend.ensures.delays,
  noted_same c.self.inside c.self.inside.all_normal c.self.inside.none_holds c.args.who c.object_mut-task.result.now c.renew.new.task c.self.invariant.0 c.object_mut-task.ensures.value c.self.invariant.1 (ap marks c.renew.ensures.task ∙ ap marks c.begin_wait.ensures),
)

pub returns : goal.returns
returns c =
    renews_to c.self.inside c.args.who c.renew.new.next_since c.object_mut-task.result.now c.begin_wait.new.task c.renew.new.task (pended c.args.place c.args.fifo (wake_at c.args.place.side c.self.inside.tick c.args.timeout)) c.self.invariant.0 c.object_mut-task.ensures.value c.begin_wait.ensures c.renew.ensures.task c.renew.ensures.next
    ∙ ap (λ s. pend s c.args.who c.args.place c.args.fifo c.args.timeout) c.self.view_is
