use Rattle.msg_queue.proofs.Counts.{counts}
use Rattle.msg_queue.proofs.laws.count_law.Goals as goal

pub returns : goal.returns
returns c = counts
