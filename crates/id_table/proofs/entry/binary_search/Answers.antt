use Rattle.std.proofs.Common.{ap, ◌∙◌, sym, arith}
use Rattle.std.proofs.lemmas.Bool.{eqb-false}
use Rattle.std.proofs.lemmas.List.{get_or_default}
use Rattle.id_table.proofs.Halving.{rank_none}
use Rattle.id_table.specs.declared.entry.Entry.{Entry}
use Rattle.id_table.specs.Entries.{entry_id}
use Rattle.id_table.proofs.entry.binary_search.Goals as goal

pub returns-else-eq : goal.returns-else-eq
returns-else-eq c =
    let es = c.args.order.now in
    let rank = c.rank_of-rank.result in
    rank_none entry_id es c.args.id rank c.requires c.rank_of-rank.ensures.split
    (λ d h same. eqb-false _ _ (sym c.if-eq.ensures) (ap (λ (e : Entry). e.id) (get_or_default es rank c.index-order-rank.result d h) ∙ same))

pub returns-then-rank-order : goal.returns-then-rank-order
returns-then-rank-order c =
    rank_none entry_id c.args.order.now c.args.id c.rank_of-rank.result c.requires c.rank_of-rank.ensures.split (λ d h same. absurd (omega (arith, h, c.if-rank-order.true)))
