use Rattle.std.proofs.Common.{ap, ◌∙◌, cond, refl}
use Rattle.wind_core.specs.Moves.{resumed, move_task}
use Rattle.wind_core.proofs.Writes.{object_lives, moves}
use Rattle.wind_core.proofs.Mending.{settled_fit, resumed_keeps}
use Rattle.wind_core.specs.Notes.{marks}
use Rattle.wind_core.proofs.Noting.{marks_settled, noted_same}
use Rattle.wind_core.proofs.kern.Kern.resume.Goals as goal

pub object_mut-task-requires : goal.object_mut-task-requires
object_mut-task-requires c = object_lives c.self.inside c.args.self.now c.args.who c.self.invariant.0 c.self.view_is c.requires.live

pub mend_ready-requires : goal.mend_ready-requires
mend_ready-requires c =
    let x = c.object_mut-task.result.now in
    (settled_fit c.self.inside c.args.who c.settle.new.next_since x (resumed x) c.take_suspension.new.task c.settle.new.task c.self.invariant.0 c.object_mut-task.ensures.value refl refl (λ h. h) c.take_suspension.ensures c.settle.ensures.task c.settle.ensures.next).ready

pub invariant_of-self : goal.invariant_of-self
invariant_of-self c = let x = c.object_mut-task.result.now in (
  resumed_keeps c.self.inside c.args.who c.settle.new.next_since x (resumed x) c.take_suspension.new.task c.settle.new.task c.self.invariant.0 c.object_mut-task.ensures.value refl refl (λ h. h) c.take_suspension.ensures c.settle.ensures.task c.settle.ensures.next
      c.mend_ready.new.ready refl refl c.mend_ready.ensures,
  noted_same c.self.inside c.self.inside.all_normal c.self.inside.none_holds c.args.who c.object_mut-task.result.now c.settle.new.task c.self.invariant.0 c.object_mut-task.ensures.value c.self.invariant.1 (ap marks c.settle.ensures.task ∙ marks_settled c.self.inside.next_since c.take_suspension.new.task ∙ ap marks c.take_suspension.ensures),
)

pub returns : goal.returns
returns c =
    moves c.self.inside c.args.who c.settle.new.next_since c.object_mut-task.result.now c.take_suspension.new.task c.settle.new.task resumed c.self.invariant.0 c.object_mut-task.ensures.value c.take_suspension.ensures c.settle.ensures.task c.settle.ensures.next
    ∙ ap (λ s. move_task s c.args.who resumed) c.self.view_is
    ∙ ap (λ b. cond b (move_task c.args.self.now c.args.who resumed) c.args.self.now) c.if-not-is_suspended.ensures
