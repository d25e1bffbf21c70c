use Rattle.std.proofs.Common.{ltb, leb, get_or, sym, rules, arith}
use Rattle.std.proofs.lemmas.Bool.{ltb-true, ltb-false, lt-leb, le-leb}
use Rattle.std.proofs.lemmas.List.Sorted.{IsPartitionPoint-from_clause, IsPartitionedBy-ltb}
use Rattle.std.proofs.lemmas.List.Sums.{position_or_len_is}
use Rattle.mem_partition.specs.declared.hole.Hole.{Hole}
use Rattle.mem_partition.proofs.hole.rank_of.Goals as goal

pub returns-clause-value : goal.returns-clause-value
returns-clause-value c =
    let hs = c.args.list.now in
    let at = c.args.at in
    let k = c.partition_point.result in
    let d : Hole = record { start = 0; end = 0 } in
    let parted = IsPartitionedBy-ltb (λ h. h.end) hs at c.requires in
    let split = IsPartitionPoint-from_clause (λ h. ltb h.end at) hs _ c.partition_point.ensures.partitioned parted (λ a r q k. search rules) in
    let within = c.partition_point.ensures.bound in
    sym (position_or_len_is (λ h. leb at h.end) hs k d within
    (λ j less. lt-leb at (get_or hs j d).end (ltb-true (get_or hs j d).end at (split.0 j d (omega (arith, less)) less)))
    (λ less. le-leb at (get_or hs k d).end (ltb-false (get_or hs k d).end at (split.1 k d (omega arith) less))))
