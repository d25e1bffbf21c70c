use Rattle.std.proofs.Common.{◌∙◌}
use Rattle.mem_partition.proofs.Keeping.{inserted}
use Rattle.mem_partition.proofs.held.put_block.Goals as goal

pub returns-clause-items : goal.returns-clause-items
returns-clause-items c =
    c.insert.ensures.items
    ∙ inserted c.args.block c.args.blocks.now.items c.rank_of-position.result (rw c.as_slice.ensures at c.rank_of-position.ensures.value)
