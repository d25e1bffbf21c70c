use Rattle.std.proofs.Common.{◌∙◌}
use Rattle.task_safety.proofs.Targets.{named}
use Rattle.task_safety.proofs.deleting.target_task.Goals as goal

pub returns : goal.returns
returns c = c.task.ensures ∙ named c.args.k.now.tasks c.args.number c.in_ok-id.id c.in_ok-id.ensures
