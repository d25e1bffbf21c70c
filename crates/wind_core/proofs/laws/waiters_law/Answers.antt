use Rattle.wind_core.proofs.Lawful.{total_orders}
use Rattle.wind_core.proofs.laws.waiters_law.Goals as goal

pub returns : goal.returns
returns c = total_orders
