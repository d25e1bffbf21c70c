use Rattle.std.proofs.Common.{ap, ◌∙◌, refl}
use Rattle.wind_core.specs.Moves.{unmarked, reset}
use Rattle.wind_core.proofs.Writes.{object_lives, renews_to}
use Rattle.wind_core.proofs.Mending.{renewed_fit, renewed_keeps}
use Rattle.wind_core.specs.Notes.{marks}
use Rattle.wind_core.proofs.Noting.{noted_same}
use Rattle.wind_core.proofs.kern.Kern.reset.Goals as goal

pub object_mut-task-requires : goal.object_mut-task-requires
object_mut-task-requires c = object_lives c.self.inside c.args.self.now c.args.who c.self.invariant.0 c.self.view_is c.requires.live

pub mend-requires : goal.mend-requires
mend-requires c =
    let x = c.object_mut-task.result.now in
    renewed_fit c.self.inside c.args.who c.renew.new.next_since x (unmarked x) c.take_marks.new.task c.renew.new.task c.self.invariant.0 c.object_mut-task.ensures.value refl (λ h. h) c.take_marks.ensures c.renew.ensures.task c.renew.ensures.next

pub invariant_of-self : goal.invariant_of-self
invariant_of-self c = let x = c.object_mut-task.result.now in (
  renewed_keeps c.self.inside c.args.who c.renew.new.next_since x (unmarked x) c.take_marks.new.task c.renew.new.task c.self.invariant.0 c.object_mut-task.ensures.value refl (λ h. h) c.take_marks.ensures c.renew.ensures.task c.renew.ensures.next
      c.mend.new.waits c.mend.new.ready c.mend.new.delays c.mend.ensures.waits c.mend.ensures.ready c.mend.ensures.delays,
  noted_same c.self.inside c.self.inside.all_normal c.self.inside.none_holds c.args.who c.object_mut-task.result.now c.renew.new.task c.self.invariant.0 c.object_mut-task.ensures.value c.self.invariant.1 (ap marks c.renew.ensures.task ∙ ap marks c.take_marks.ensures),
)

pub returns : goal.returns
returns c =
    renews_to c.self.inside c.args.who c.renew.new.next_since c.object_mut-task.result.now c.take_marks.new.task c.renew.new.task unmarked c.self.invariant.0 c.object_mut-task.ensures.value c.take_marks.ensures c.renew.ensures.task c.renew.ensures.next
    ∙ ap (λ s. reset s c.args.who) c.self.view_is
