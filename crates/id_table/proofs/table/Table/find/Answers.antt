use Rattle.id_table.proofs.Lookups.{no_object_of}
use Rattle.id_table.proofs.table.Table.find.Goals as goal

pub returns-in_err-id : goal.returns-in_err-id
returns-in_err-id g c = rw c.from_residual.ensures (no_object_of c.args.self.now c.args.number c.facts.ensures c.in_err-id.ensures)
