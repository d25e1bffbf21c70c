use Rattle.delay_queue.proofs.Coming.{due_came, nobody_due}
use Rattle.delay_queue.proofs.laws.due_law.Goals as goal

pub returns : goal.returns
returns c = record { first = due_came; nobody = nobody_due }
