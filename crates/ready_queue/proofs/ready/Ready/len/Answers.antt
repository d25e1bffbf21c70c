use Rattle.std.proofs.Common.{ap, ◌∙◌, sym, length}
use Rattle.ready_queue.proofs.Rotation.{length-tasks}
use Rattle.ready_queue.proofs.ready.Ready.len.Goals as goal

pub returns : goal.returns
returns c = c.len.ensures ∙ sym (length-tasks 0 c.self.inside.tasks.chains) ∙ ap (λ o. length o.tasks) c.self.view_is
