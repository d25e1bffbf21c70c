use Rattle.std.proofs.Common.{ap, ◌∙◌, refl}
use Rattle.wind_core.specs.Moves.{released, release}
use Rattle.wind_core.proofs.Writes.{object_lives, moves}
use Rattle.wind_core.proofs.Mending.{settled_fit, ended_keeps}
use Rattle.wind_core.specs.Notes.{marks}
use Rattle.wind_core.proofs.Noting.{marks_settled, noted_same}
use Rattle.wind_core.proofs.kern.Kern.release.Goals as goal

pub object_mut-task-requires : goal.object_mut-task-requires
object_mut-task-requires c = object_lives c.self.inside c.args.self.now c.args.who c.self.invariant.0 c.self.view_is c.requires.live

pub mend-requires : goal.mend-requires
mend-requires c =
    let x = c.object_mut-task.result.now in
    settled_fit c.self.inside c.args.who c.settle.new.next_since x (released x) c.end.new.task c.settle.new.task c.self.invariant.0 c.object_mut-task.ensures.value refl refl (λ _. tt) c.end.ensures c.settle.ensures.task c.settle.ensures.next

pub invariant_of-self : goal.invariant_of-self
invariant_of-self c = let x = c.object_mut-task.result.now in (
  ended_keeps c.self.inside c.args.who c.settle.new.next_since x (released x) c.end.new.task c.settle.new.task c.self.invariant.0 c.object_mut-task.ensures.value refl refl (λ _. tt) c.end.ensures c.settle.ensures.task c.settle.ensures.next
      c.mend.new.waits c.mend.new.ready c.mend.new.delays refl c.mend.ensures.waits c.mend.ensures.ready c.mend.ensures.delays,
  noted_same c.self.inside c.self.inside.all_normal c.self.inside.none_holds c.args.who c.object_mut-task.result.now c.settle.new.task c.self.invariant.0 c.object_mut-task.ensures.value c.self.invariant.1 (ap marks c.settle.ensures.task ∙ marks_settled c.self.inside.next_since c.end.new.task ∙ ap marks c.end.ensures),
)

pub returns : goal.returns
returns c =
    moves c.self.inside c.args.who c.settle.new.next_since c.object_mut-task.result.now c.end.new.task c.settle.new.task released c.self.invariant.0 c.object_mut-task.ensures.value c.end.ensures c.settle.ensures.task c.settle.ensures.next
    ∙ ap (λ s. release s c.args.who) c.self.view_is
