use Rattle.std.proofs.Common.{ap, ◌∙◌, cond, refl}
use Rattle.wind_core.specs.Moves.{with_pri, move_task}
use Rattle.wind_core.proofs.Writes.{object_lives, moves}
use Rattle.wind_core.proofs.Mending.{settled_fit, rekeyed_keeps}
use Rattle.wind_core.specs.Notes.{marks}
use Rattle.wind_core.proofs.Noting.{marks_settled, noted_repried}
use Rattle.wind_core.proofs.kern.Kern.change_pri.Goals as goal

pub object_mut-task-requires : goal.object_mut-task-requires
object_mut-task-requires c = object_lives c.self.inside c.args.self.now c.args.who c.self.invariant.0 c.self.view_is c.requires.live

pub mend_waits-requires : goal.mend_waits-requires
mend_waits-requires c =
    let x = c.object_mut-task.result.now in
    (settled_fit c.self.inside c.args.who c.settle.new.next_since x (with_pri c.args.pri x) c.set_pri.new.task c.settle.new.task c.self.invariant.0 c.object_mut-task.ensures.value refl refl (λ h. h) c.set_pri.ensures c.settle.ensures.task c.settle.ensures.next).waits

pub mend_ready-requires : goal.mend_ready-requires
mend_ready-requires c =
    let x = c.object_mut-task.result.now in
    (settled_fit c.self.inside c.args.who c.settle.new.next_since x (with_pri c.args.pri x) c.set_pri.new.task c.settle.new.task c.self.invariant.0 c.object_mut-task.ensures.value refl refl (λ h. h) c.set_pri.ensures c.settle.ensures.task c.settle.ensures.next).ready

pub invariant_of-self : goal.invariant_of-self
invariant_of-self c = let x = c.object_mut-task.result.now in (
  rekeyed_keeps c.self.inside c.args.who c.settle.new.next_since x (with_pri c.args.pri x) c.set_pri.new.task c.settle.new.task c.self.invariant.0 c.object_mut-task.ensures.value refl refl (λ h. h) c.set_pri.ensures c.settle.ensures.task c.settle.ensures.next
      c.mend_waits.new.waits c.mend_ready.new.ready refl c.mend_waits.ensures c.mend_ready.ensures,
  noted_repried c.self.inside c.self.inside.all_normal c.self.inside.none_holds c.normal_too-self-inside.result c.args.who x c.settle.new.task c.self.invariant.0 c.object_mut-task.ensures.value c.self.invariant.1
      c.normal_too-self-inside.ensures (ap (λ m. m.2) (ap marks c.settle.ensures.task ∙ marks_settled c.self.inside.next_since c.set_pri.new.task ∙ ap marks c.set_pri.ensures)),
)

pub returns : goal.returns
returns c =
    moves c.self.inside c.args.who c.settle.new.next_since c.object_mut-task.result.now c.set_pri.new.task c.settle.new.task (with_pri c.args.pri) c.self.invariant.0 c.object_mut-task.ensures.value c.set_pri.ensures c.settle.ensures.task c.settle.ensures.next
    ∙ ap (λ s. move_task s c.args.who (with_pri c.args.pri)) c.self.view_is
    ∙ ap (λ b. cond b c.args.self.now (move_task c.args.self.now c.args.who (with_pri c.args.pri))) c.if-has_pri.ensures
