use Rattle.std.proofs.Common.{◌%◌, length}
use Rattle.std.proofs.lemmas.Bool.{ne_eqb}
use Rattle.symbol_table.specs.Newest.{has_value}
use Rattle.symbol_table.specs.Chains.{chain_by_value, value_hash, state_of}
use Rattle.symbol_table.proofs.Chaining.{valued_only, begins, goes_on}
use Rattle.symbol_table.proofs.search.newest_valued.Goals as goal

pub loop-at-init : goal.loop-at-init
loop-at-init c =
    begins (has_value c.args.value) (chain_by_value (length c.args.links.now.heads.items)) c.hash_value.result (value_hash c.args.value) c.newest-at.result c.args.list.now (state_of c.args.links.now)
    (valued_only (length c.args.links.now.heads.items) c.args.value) c.requires c.hash_value.ensures.value c.newest-at.ensures

pub loop-at-preserved : goal.loop-at-preserved
loop-at-preserved c =
    (goes_on (has_value c.args.value) (chain_by_value (length c.args.links.now.heads.items)) (value_hash c.args.value % length c.args.links.now.heads.items) c.args.list.now (state_of c.args.links.now) c.loop-at.at
    c.index.result.now c.index-list-at.result (valued_only (length c.args.links.now.heads.items) c.args.value) c.requires c.loop-at-test.true c.index-list-at.is
    (ne_eqb c.index-list-at.result.value c.args.value c.if-symbol-value.false) c.index.ensures c.loop-at.invariant).0

pub loop-at-smaller : goal.loop-at-smaller
loop-at-smaller c =
    (goes_on (has_value c.args.value) (chain_by_value (length c.args.links.now.heads.items)) (value_hash c.args.value % length c.args.links.now.heads.items) c.args.list.now (state_of c.args.links.now) c.loop-at.at
    c.index.result.now c.index-list-at.result (valued_only (length c.args.links.now.heads.items) c.args.value) c.requires c.loop-at-test.true c.index-list-at.is
    (ne_eqb c.index-list-at.result.value c.args.value c.if-symbol-value.false) c.index.ensures c.loop-at.invariant).1
