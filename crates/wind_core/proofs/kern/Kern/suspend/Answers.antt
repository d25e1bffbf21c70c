use Rattle.std.proofs.Common.{ap}
use Rattle.wind_core.specs.Moves.{suspended}
use Rattle.wind_core.proofs.Writes.{object_lives, sets}
use Rattle.wind_core.proofs.Mending.{suspended_keeps}
use Rattle.wind_core.specs.Notes.{marks}
use Rattle.wind_core.proofs.Noting.{noted_same}
use Rattle.wind_core.proofs.kern.Kern.suspend.Goals as goal

pub object_mut-requires : goal.object_mut-requires
object_mut-requires c = object_lives c.self.inside c.args.self.now c.args.who c.self.invariant.0 c.self.view_is c.requires

pub invariant_of-self : goal.invariant_of-self
invariant_of-self c = (
  suspended_keeps c.self.inside c.args.who c.object_mut.result.now c.suspend_task.new.task c.take.new.self c.self.invariant.0 c.object_mut.ensures.value c.suspend_task.ensures c.take.ensures.tasks,
  noted_same c.self.inside c.self.inside.all_normal c.self.inside.none_holds c.args.who c.object_mut.result.now c.suspend_task.new.task c.self.invariant.0 c.object_mut.ensures.value c.self.invariant.1 (ap marks c.suspend_task.ensures),
)

pub returns : goal.returns
returns c = sets c.self.inside c.args.self.now c.args.who c.object_mut.result.now c.suspend_task.new.task suspended c.self.invariant.0 c.self.view_is c.object_mut.ensures.value c.suspend_task.ensures
