use Rattle.std.proofs.Common.{rules, ltb}
use Rattle.std.proofs.lemmas.List.Sorted.{IsPartitionPoint-from_clause, IsPartitionedBy-ltb}
use Rattle.id_table.proofs.Halving.{rising_ids}
use Rattle.id_table.specs.Entries.{entry_id}
use Rattle.id_table.proofs.entry.rank_of.Goals as goal

pub returns-clause-split : goal.returns-clause-split
returns-clause-split c =
    let parted = IsPartitionedBy-ltb (λ e. e.id) _ c.args.id (rising_ids entry_id c.args.order.now c.requires) in
    IsPartitionPoint-from_clause (λ e. ltb e.id c.args.id) _ _ c.partition_point.ensures.partitioned parted (λ a r q k. search rules)
