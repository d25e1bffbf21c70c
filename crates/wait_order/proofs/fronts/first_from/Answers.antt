use Rattle.std.proofs.Common.{sym, arith}
use Rattle.wait_order.proofs.Places.{ranked, from_here, from_end}
use Rattle.wait_order.proofs.fronts.first_from.Goals as goal

pub returns-then-rank-fronts : goal.returns-then-rank-fronts
returns-then-rank-fronts c =
    let fs = c.args.fronts.now in
    let rank = c.rank_of-rank in
    sym (from_end fs c.args.place.now rank.result (ranked fs c.args.place.now rank.result rank.ensures.within rank.ensures.split) c.if-rank-fronts.true)

pub returns : goal.returns
returns c =
    let fs = c.args.fronts.now in
    let rank = c.rank_of-rank in
    sym (from_here fs c.args.place.now rank.result c.index-fronts-rank.result (ranked fs c.args.place.now rank.result rank.ensures.within rank.ensures.split) (omega (arith, c.if-rank-fronts.false, rank.ensures.within)))
