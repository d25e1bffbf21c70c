use Rattle.wait_order.proofs.LineOrder.{first_is_least, nobody_waits}
use Rattle.wait_order.proofs.laws.first_law.Goals as goal

pub returns : goal.returns
returns c = record { first = first_is_least; nobody = nobody_waits }
