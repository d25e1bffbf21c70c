use Rattle.id_table.proofs.Orders.{sorted_is}
use Rattle.id_table.proofs.sorted_law.Goals as goal

pub returns : goal.returns
returns g c = sorted_is
