use Rattle.std.proofs.Common.{rules, leb, sym, arith}
use Rattle.std.proofs.lemmas.List.Sorted.{IsPartitionPoint-from_clause, IsPartitionedBy-leb}
use Rattle.id_table.proofs.Halving.{rising_ids, none_above, first_above}
use Rattle.id_table.specs.Entries.{entry_id}
use Rattle.id_table.proofs.entry.id_above.Goals as goal

pub returns-then-above-order : goal.returns-then-above-order
returns-then-above-order c =
    let parted = IsPartitionedBy-leb (λ e. e.id) c.args.order.now c.args.n (rising_ids entry_id c.args.order.now c.requires) in
    sym (none_above entry_id c.args.order.now c.args.n c.partition_point-above.result
    (IsPartitionPoint-from_clause (λ e. leb e.id c.args.n) _ _ c.partition_point-above.ensures.partitioned parted (λ a r q k. search rules)) c.if-above-order.true)

pub returns-else-above-order : goal.returns-else-above-order
returns-else-above-order c =
    let parted = IsPartitionedBy-leb (λ e. e.id) c.args.order.now c.args.n (rising_ids entry_id c.args.order.now c.requires) in
    let within = c.partition_point-above.ensures.bound in
    sym (first_above entry_id c.args.order.now c.args.n c.partition_point-above.result c.index-order-above.result
    (IsPartitionPoint-from_clause (λ e. leb e.id c.args.n) _ _ c.partition_point-above.ensures.partitioned parted (λ a r q k. search rules)) (omega (arith, c.if-above-order.false)))
