use Rattle.ready_queue.proofs.Coming.{first_came}
use Rattle.ready_queue.proofs.laws.first_law.Goals as goal

pub returns : goal.returns
returns c = first_came
