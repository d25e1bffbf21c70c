use Rattle.task_safety.proofs.Waiting.{moves_keep, calls_keep}
use Rattle.task_safety.proofs.laws.kept_law.Goals as goal

pub returns : goal.returns
returns c = record { moves = moves_keep; calls = calls_keep }
