use Rattle.wait_order.proofs.LineOrder.{taken_out}
use Rattle.wait_order.proofs.laws.take_law.Goals as goal

pub returns : goal.returns
returns c = taken_out
