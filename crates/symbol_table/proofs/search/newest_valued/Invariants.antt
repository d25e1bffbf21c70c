use Rattle.std.proofs.Common.{◌%◌, length}
use Rattle.symbol_table.specs.Newest.{has_value}
use Rattle.symbol_table.specs.Chains.{chain_by_value, value_hash}
use Rattle.symbol_table.proofs.Chaining.{HasCome}
use Rattle.symbol_table.proofs.search.newest_valued.Given as goal

abbrev pub invariant-loop-at : goal.invariant-loop-at
invariant-loop-at l = HasCome (has_value l.value) (chain_by_value (length l.links.heads.items)) (value_hash l.value % length l.links.heads.items) l.list l.at

abbrev pub decreases-loop-at : goal.decreases-loop-at
decreases-loop-at l = l.at
