use Rattle.mem_partition.proofs.Keeping.{free_kept}
use Rattle.mem_partition.proofs.Allocs.{alloc_on_kept}
use Rattle.mem_partition.proofs.Meeting.{blocks_apart, blocks_inside}
use Rattle.mem_partition.proofs.laws.blocks_law.Goals as goal

pub returns : goal.returns
returns c = record { apart = blocks_apart; inside = blocks_inside; allocating = alloc_on_kept; freeing = free_kept }
