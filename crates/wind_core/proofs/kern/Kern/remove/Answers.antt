use Rattle.std.proofs.Common.{ap, ◌∙◌}
use Rattle.wind_core.specs.State.{task_of, task_id}
use Rattle.wind_core.specs.Moves.{remove}
use Rattle.id_table.proofs.Owning.{object-record}
use Rattle.wind_core.proofs.Comings.{removed_is, removed_keeps}
use Rattle.wind_core.proofs.Noting.{noted_removed}
use Rattle.wind_core.proofs.kern.Kern.remove.Goals as goal

pub invariant_of-self : goal.invariant_of-self
invariant_of-self c = rw c.remove.ensures.rows (
  removed_keeps c.self.inside c.args.who c.take.new.self c.take-2.new.self c.take-3.new.self c.self.invariant.0 c.take.ensures.waiters c.take-2.ensures.tasks c.take-3.ensures.tasks,
  noted_removed c.self.inside c.self.inside.all_normal c.self.inside.none_holds c.args.who c.self.invariant.0 c.self.invariant.1,
)

pub returns-clause-value : goal.returns-clause-value
returns-clause-value c = c.remove.ensures.value ∙ object-record task_id c.self.inside.tasks.rows c.args.who c.self.invariant.0.1 ∙ ap (λ s. task_of s.tasks c.args.who) c.self.view_is

pub returns-clause-tasks : goal.returns-clause-tasks
returns-clause-tasks c = rw c.remove.ensures.rows (removed_is c.self.inside c.args.who c.take.new.self c.take-2.new.self c.take-3.new.self c.self.invariant.0 ∙ ap (λ s. remove s c.args.who) c.self.view_is)
