use Rattle.call_rows.proofs.Taking.{end_is}
use Rattle.call_rows.proofs.ending.end_task.Goals as goal

pub returns-clause-world : goal.returns-clause-world
returns-clause-world g c =
    end_is _ c.end_safety.new.kern c.remove-task.new.self c.take_stack.new.part c.remove-task.result c.args.who c.end_safety.ensures c.remove-task.ensures.tasks c.remove-task.ensures.value c.take_stack.ensures
