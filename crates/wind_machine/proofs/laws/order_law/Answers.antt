use Rattle.wind_machine.proofs.Order.{in_order, over_alone}
use Rattle.wind_machine.proofs.laws.order_law.Goals as goal

pub returns-clause-one : goal.returns-clause-one
returns-clause-one c = in_order

pub returns-clause-over : goal.returns-clause-over
returns-clause-over c = over_alone
