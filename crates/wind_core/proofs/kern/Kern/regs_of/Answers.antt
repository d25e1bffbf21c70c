use Rattle.std.proofs.Common.{ap, ◌∙◌, sym, refl}
use Rattle.std.specs.Option.{option_map}
use Rattle.task_block.specs.declared.task.Task.{Task}
use Rattle.wind_core.specs.State.{task_of}
use Rattle.wind_core.specs.Moves.{set_regs}
use Rattle.wind_core.proofs.Writes.{object_lives, found, changed}
use Rattle.wind_core.proofs.Mending.{same_keeps}
use Rattle.wind_core.proofs.Noting.{noted_same}
use Rattle.wind_core.proofs.kern.Kern.regs_of.Goals as goal

pub object_mut-requires : goal.object_mut-requires
object_mut-requires c = object_lives c.self.inside c.args.self.now c.args.who c.self.invariant.0 c.self.view_is c.requires

pub invariant_of-self-lent : goal.invariant_of-self-lent
invariant_of-self-lent c = λ w.
    let x : Task = c.object_mut.result.now in (
      same_keeps c.self.inside c.args.who x (record x { regs = w }) c.self.invariant.0 c.object_mut.ensures.value refl,
      noted_same c.self.inside c.self.inside.all_normal c.self.inside.none_holds c.args.who x (record x { regs = w }) c.self.invariant.0 c.object_mut.ensures.value c.self.invariant.1 refl,
    )

pub returns : goal.returns
returns c =
    let k = c.self.inside in
    let x : Task = c.object_mut.result.now in (
      (
        refl,
        λ w.
            changed k c.args.who x (record x { regs = w }) (λ t. record t { regs = w }) c.self.invariant.0 c.object_mut.ensures.value refl
            ∙ ap (λ s. set_regs s c.args.who w) c.self.view_is,
      ),
      record {
        writes_back = tt;
        value = sym (ap (λ s. option_map (λ (t : Task). t.regs) (task_of s.tasks c.args.who)) c.self.view_is)
            ∙ ap (option_map (λ (t : Task). t.regs)) (found k c.args.who x c.self.invariant.0 c.object_mut.ensures.value);
      },
    )
