use Rattle.std.proofs.Common.{rules}
use Rattle.std.proofs.lemmas.List.Sorted.{IsPartitionPoint-from_clause}
use Rattle.wait_order.specs.Fronts.{place_before}
use Rattle.wait_order.proofs.Places.{parted}
use Rattle.wait_order.proofs.fronts.rank_of.Goals as goal

pub returns-clause-split : goal.returns-clause-split
returns-clause-split c =
    IsPartitionPoint-from_clause (λ f. place_before f.place c.args.place.now) _ _ c.partition_point.ensures.partitioned (parted c.args.fronts.now c.args.place.now c.requires) (λ a r q k. search rules)
