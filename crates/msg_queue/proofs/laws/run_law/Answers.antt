use Rattle.msg_queue.proofs.Running.{run_conserved}
use Rattle.msg_queue.proofs.laws.run_law.Goals as goal

pub returns : goal.returns
returns c = run_conserved
