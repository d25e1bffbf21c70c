use Rattle.std.proofs.Common.{ap, ◌∙◌}
use Rattle.wind_core.specs.State.{task_of, task_id}
use Rattle.id_table.proofs.Owning.{object-record}
use Rattle.wind_core.proofs.kern.Kern.task.Goals as goal

pub returns : goal.returns
returns c = c.get.ensures ∙ object-record task_id c.self.inside.tasks.rows c.args.id c.self.invariant.0.1 ∙ ap (λ s. task_of s.tasks c.args.id) c.self.view_is
