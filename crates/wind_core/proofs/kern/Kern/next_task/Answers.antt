use Rattle.std.proofs.Common.{ap, ◌∙◌}
use Rattle.wind_core.specs.State.{task_above, task_id}
use Rattle.id_table.proofs.Owning.{above-objects}
use Rattle.wind_core.proofs.kern.Kern.next_task.Goals as goal

pub returns : goal.returns
returns c = c.next_after.ensures.value ∙ above-objects task_id c.self.inside.tasks.rows c.args.id c.self.invariant.0.1 ∙ ap (λ s. task_above s.tasks c.args.id) c.self.view_is
