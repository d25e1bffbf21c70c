use Rattle.std.proofs.Common.{leb, sym, rules}
use Rattle.std.proofs.lemmas.List.Sorted.{IsPartitionPoint-from_clause, IsPartitionedBy-leb}
use Rattle.mem_partition.proofs.Keeping.{first_above}
use Rattle.mem_partition.proofs.held.rank_of.Goals as goal

pub returns-clause-value : goal.returns-clause-value
returns-clause-value c =
    let bs = c.args.blocks.now in
    let parted = IsPartitionedBy-leb (λ b. b.addr) bs c.args.at c.requires in
    sym (first_above bs c.args.at c.partition_point.result c.partition_point.ensures.bound
    (IsPartitionPoint-from_clause (λ b. leb b.addr c.args.at) bs _ c.partition_point.ensures.partitioned parted (λ a r q k. search rules)))
