use Rattle.dev_irq.proofs.Counting.{counts}
use Rattle.dev_irq.proofs.laws.count_law.Goals as goal

pub returns : goal.returns
returns c = counts
