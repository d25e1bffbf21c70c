use Rattle.dev_irq.proofs.Lines.{lines_stay}
use Rattle.dev_irq.proofs.laws.kept_law.Goals as goal

pub returns : goal.returns
returns c = lines_stay
