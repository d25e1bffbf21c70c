use Rattle.msg_queue.proofs.Events.{starts, keeps, creates_keep}
use Rattle.msg_queue.proofs.laws.kept_law.Goals as goal

pub returns : goal.returns
returns c = record { start = starts; steps = keeps; creates = creates_keep }
