use Rattle.std.proofs.Common.{◌%◌, length}
use Rattle.symbol_table.specs.Chains.{is_sought, chain_by_name, name_hash}
use Rattle.symbol_table.proofs.Chaining.{HasCome}
use Rattle.symbol_table.proofs.search.newest_named.Given as goal

abbrev pub invariant-loop-at : goal.invariant-loop-at
invariant-loop-at l = HasCome (is_sought l.global_only l.name) (chain_by_name (length l.links.heads.items)) (name_hash l.name % length l.links.heads.items) l.list l.at

abbrev pub decreases-loop-at : goal.decreases-loop-at
decreases-loop-at l = l.at
