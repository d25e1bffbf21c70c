use Rattle.id_table.proofs.Orders.{first_least}
use Rattle.id_table.proofs.first_law.Goals as goal

pub returns : goal.returns
returns g c = first_least
