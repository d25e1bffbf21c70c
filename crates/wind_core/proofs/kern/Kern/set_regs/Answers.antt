use Rattle.std.proofs.Common.{refl}
use Rattle.task_block.specs.declared.task.Task.{Task}
use Rattle.wind_core.proofs.Writes.{object_lives, sets}
use Rattle.wind_core.proofs.Mending.{set_keeps}
use Rattle.wind_core.proofs.Noting.{noted_same}
use Rattle.wind_core.proofs.kern.Kern.set_regs.Goals as goal

pub object_mut-requires : goal.object_mut-requires
object_mut-requires c = object_lives c.self.inside c.args.self.now c.args.who c.self.invariant.0 c.self.view_is c.requires

pub invariant_of-self : goal.invariant_of-self
invariant_of-self c = (
  set_keeps c.self.inside c.args.who c.object_mut.result.now (let x : Task = c.object_mut.result.now in record x { regs = c.args.regs }) (λ t. record t { regs = c.args.regs }) c.self.invariant.0 c.object_mut.ensures.value refl (λ _. refl),
  noted_same c.self.inside c.self.inside.all_normal c.self.inside.none_holds c.args.who c.object_mut.result.now (let x : Task = c.object_mut.result.now in record x { regs = c.args.regs }) c.self.invariant.0 c.object_mut.ensures.value c.self.invariant.1 refl,
)

pub returns : goal.returns
returns c = sets c.self.inside c.args.self.now c.args.who c.object_mut.result.now (let x : Task = c.object_mut.result.now in record x { regs = c.args.regs }) (λ t. record t { regs = c.args.regs }) c.self.invariant.0 c.self.view_is c.object_mut.ensures.value refl
