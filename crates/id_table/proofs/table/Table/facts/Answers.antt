use Rattle.std.proofs.Common.{subst}
use Rattle.id_table.specs.Rows.{IsTable}
use Rattle.id_table.proofs.Kept.{rows_sound}
use Rattle.id_table.proofs.table.Table.facts.Goals as goal

pub returns : goal.returns
returns g c = subst IsTable c.self.view_is (rows_sound c.self.inside.order.items c.self.inside.slots c.self.inside.room c.self.invariant.1)
