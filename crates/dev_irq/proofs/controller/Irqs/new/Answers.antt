use Rattle.dev_irq.proofs.Lines.{lines_at_first, first_is}
use Rattle.dev_irq.proofs.controller.Irqs.new.Goals as goal

pub invariant_of-result : goal.invariant_of-result
invariant_of-result c = first_is c.default.result (lines_at_first c.default.result 16 c.default.ensures)

pub returns : goal.returns
returns c = lines_at_first c.default.result 16 c.default.ensures
