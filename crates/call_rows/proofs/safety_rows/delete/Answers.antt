use Rattle.std.proofs.Common.{Some, Ok, ap, ◌∙◌}
use Rattle.call_rows.proofs.Taking.{removed_is, ended_is}
use Rattle.call_rows.proofs.safety_rows.delete.Goals as goal

pub returns-in-Ok-Removed : goal.returns-in-Ok-Removed
returns-in-Ok-Removed c =
    let answers = c.in-Ok-Removed.ensures.answer ∙ ap (λ d. Some (Ok d)) c.in-Ok-Removed.field-0-is in
    record { row = removed_is c.args.board c.args.kern.now c.delete.new.k c.args.part.now c.take_stack.new.part c.args.who c.in-Task.caller c.args.id c.meant.result _ c.in-Task.is c.meant.ensures c.in-Ok-Removed.ensures.kern c.take_stack.ensures answers }

pub returns-in-Ok-SelfEnded : goal.returns-in-Ok-SelfEnded
returns-in-Ok-SelfEnded c =
    let answers = c.in-Ok-SelfEnded.ensures.answer ∙ ap (λ d. Some (Ok d)) c.in-Ok-SelfEnded.field-0-is in
    record { row = ended_is c.args.board c.args.kern.now c.delete.new.k c.args.part.now c.take_stack-in-Ok-SelfEnded.new.part c.args.who c.in-Task.caller c.args.id c.meant.result _ c.in-Task.is c.meant.ensures c.in-Ok-SelfEnded.ensures.kern c.take_stack-in-Ok-SelfEnded.ensures answers }
