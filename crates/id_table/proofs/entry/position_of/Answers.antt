use Rattle.std.proofs.Common.{arith}
use Rattle.id_table.specs.Entries.{entry_id}
use Rattle.id_table.proofs.Halving.{none_of}
use Rattle.id_table.proofs.entry.position_of.Goals as goal

pub returns-then-are_below : goal.returns-then-are_below
returns-then-are_below c =
    let below = c.are_below.ensures c.if-are_below.true in
    none_of entry_id c.args.order.now c.args.id (λ k d h same. absurd (omega (arith, below k d h, same)))
