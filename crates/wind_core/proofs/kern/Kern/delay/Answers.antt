use Rattle.std.proofs.Common.{ap, ◌∙◌}
use Rattle.wind_core.specs.Moves.{delayed, delay}
use Rattle.wind_core.proofs.Writes.{object_lives, renews_to, delayed_id, delayed_ahead}
use Rattle.wind_core.proofs.Mending.{renewed_fit, renewed_keeps}
use Rattle.wind_core.specs.Notes.{marks}
use Rattle.wind_core.proofs.Noting.{marks_delayed, noted_same}
use Rattle.wind_core.proofs.kern.Kern.delay.Goals as goal

pub object_mut-task-requires : goal.object_mut-task-requires
object_mut-task-requires c = object_lives c.self.inside c.args.self.now c.args.who c.self.invariant.0 c.self.view_is c.requires.live

pub mend-requires : goal.mend-requires
mend-requires c =
    let x = c.object_mut-task.result.now in
    renewed_fit c.self.inside c.args.who c.renew.new.next_since x (delayed c.self.inside.tick c.args.ticks x) c.begin_delay.new.task c.renew.new.task c.self.invariant.0 c.object_mut-task.ensures.value (delayed_id c.self.inside.tick c.args.ticks x) (delayed_ahead c.self.inside.tick c.args.ticks x) c.begin_delay.ensures c.renew.ensures.task c.renew.ensures.next

pub invariant_of-self : goal.invariant_of-self
invariant_of-self c = let x = c.object_mut-task.result.now in (
  renewed_keeps c.self.inside c.args.who c.renew.new.next_since x (delayed c.self.inside.tick c.args.ticks x) c.begin_delay.new.task c.renew.new.task c.self.invariant.0 c.object_mut-task.ensures.value (delayed_id c.self.inside.tick c.args.ticks x) (delayed_ahead c.self.inside.tick c.args.ticks x) c.begin_delay.ensures c.renew.ensures.task c.renew.ensures.next
      c.mend.new.waits c.mend.new.ready c.mend.new.delays c.mend.ensures.waits c.mend.ensures.ready c.mend.ensures.delays,
  noted_same c.self.inside c.self.inside.all_normal c.self.inside.none_holds c.args.who c.object_mut-task.result.now c.renew.new.task c.self.invariant.0 c.object_mut-task.ensures.value c.self.invariant.1 (ap marks c.renew.ensures.task ∙ ap marks c.begin_delay.ensures ∙ marks_delayed c.self.inside.tick c.args.ticks c.object_mut-task.result.now),
)

pub returns : goal.returns
returns c =
    renews_to c.self.inside c.args.who c.renew.new.next_since c.object_mut-task.result.now c.begin_delay.new.task c.renew.new.task (delayed c.self.inside.tick c.args.ticks) c.self.invariant.0 c.object_mut-task.ensures.value c.begin_delay.ensures c.renew.ensures.task c.renew.ensures.next
    ∙ ap (λ s. delay s c.args.who c.args.ticks) c.self.view_is
