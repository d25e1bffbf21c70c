use Rattle.std.proofs.Common.{◌%◌, length, sym, ◌∙◌}
use Rattle.symbol_table.specs.Chains.{is_sought, chain_by_name, name_hash, state_of}
use Rattle.symbol_table.proofs.Chaining.{named_only, begins, goes_on}
use Rattle.symbol_table.proofs.search.newest_named.Goals as goal

pub loop-at-init : goal.loop-at-init
loop-at-init c =
    begins (is_sought c.args.global_only c.args.name.now) (chain_by_name (length c.args.links.now.heads.items)) c.hash_name.result (name_hash c.args.name.now) c.newest-at.result c.args.list.now (state_of c.args.links.now)
    (named_only (length c.args.links.now.heads.items) c.args.global_only c.args.name.now) c.requires c.hash_name.ensures.value c.newest-at.ensures

pub loop-at-preserved : goal.loop-at-preserved
loop-at-preserved c =
    (goes_on (is_sought c.args.global_only c.args.name.now) (chain_by_name (length c.args.links.now.heads.items)) (name_hash c.args.name.now % length c.args.links.now.heads.items) c.args.list.now (state_of c.args.links.now) c.loop-at.at
    c.index.result.now c.index-list-at.result (named_only (length c.args.links.now.heads.items) c.args.global_only c.args.name.now) c.requires c.loop-at-test.true c.index-list-at.is
    (sym c.is_sought_for.ensures ∙ c.if-is_sought_for.false) c.index.ensures c.loop-at.invariant).0

pub loop-at-smaller : goal.loop-at-smaller
loop-at-smaller c =
    (goes_on (is_sought c.args.global_only c.args.name.now) (chain_by_name (length c.args.links.now.heads.items)) (name_hash c.args.name.now % length c.args.links.now.heads.items) c.args.list.now (state_of c.args.links.now) c.loop-at.at
    c.index.result.now c.index-list-at.result (named_only (length c.args.links.now.heads.items) c.args.global_only c.args.name.now) c.requires c.loop-at-test.true c.index-list-at.is
    (sym c.is_sought_for.ensures ∙ c.if-is_sought_for.false) c.index.ensures c.loop-at.invariant).1
