use Rattle.task_safety.proofs.Going.{who_goes}
use Rattle.task_safety.proofs.laws.gone_law.Goals as goal

pub returns : goal.returns
returns c = who_goes
