use Rattle.id_table.proofs.Orders.{sorted_same}
use Rattle.id_table.proofs.same_law.Goals as goal

pub returns : goal.returns
returns g c = sorted_same
