use Rattle.std.proofs.Common.{◌-◌, sym, ◌∙◌, arith}
use Rattle.mem_partition.proofs.Seeking.{own_found, none_own, other_own}
use Rattle.mem_partition.proofs.held.own_position.Goals as goal

pub returns-then-rank-eq0 : goal.returns-then-rank-eq0
returns-then-rank-eq0 c = none_own c.args.blocks.now c.args.at c.args.class c.rank_of-rank.result c.requires c.rank_of-rank.ensures.value c.if-rank-eq0.true

pub returns-then-is_own : goal.returns-then-is_own
returns-then-is_own c =
    let within = c.rank_of-rank.ensures.within in
    own_found c.args.blocks.now c.args.at c.args.class (c.rank_of-rank.result - 1) _ c.requires (omega (arith, c.if-rank-eq0.false)) (sym c.is_own.ensures ∙ c.if-is_own.true)

pub returns-else-is_own : goal.returns-else-is_own
returns-else-is_own c =
    other_own c.args.blocks.now c.args.at c.args.class c.rank_of-rank.result _ c.requires c.rank_of-rank.ensures.value c.if-rank-eq0.false (sym c.is_own.ensures ∙ c.if-is_own.false)
