use Rattle.dev_irq.proofs.Nexts.{nexts}
use Rattle.dev_irq.proofs.laws.next_law.Goals as goal

pub returns : goal.returns
returns c = nexts
