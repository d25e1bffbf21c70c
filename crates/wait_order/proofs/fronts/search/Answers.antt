use Rattle.std.proofs.Common.{sym, ap, ◌∙◌, ◌<◌, length, arith}
use Rattle.std.proofs.lemmas.List.{get_or_default}
use Rattle.wait_order.specs.declared.fronts.Front.{Front}
use Rattle.wait_order.specs.Fronts.{same_place}
use Rattle.wait_order.proofs.Places.{ranked, stands_here, goes_here}
use Rattle.wait_order.proofs.fronts.search.Goals as goal

pub returns-then-rank-fronts-clause-found : goal.returns-then-rank-fronts-clause-found
returns-then-rank-fronts-clause-found c =
    let fs = c.args.fronts.now in
    let rank = c.rank_of-rank in
    goes_here fs c.args.place.now rank.result c.requires (ranked fs c.args.place.now rank.result rank.ensures.within rank.ensures.split) (λ d h. absurd (omega (arith, h, c.if-rank-fronts.true)))

pub returns-then-same_place-clause-found : goal.returns-then-same_place-clause-found
returns-then-same_place-clause-found c =
    let fs = c.args.fronts.now in
    let p = c.args.place.now in
    let rank = c.rank_of-rank in
    let within : rank.result < length fs = omega (arith, c.if-rank-fronts.false, rank.ensures.within) in
    stands_here fs p rank.result (ranked fs p rank.result rank.ensures.within rank.ensures.split) within
    (λ d. ap (λ (f : Front). same_place f.place p) (get_or_default fs rank.result d c.index-fronts-rank.result within) ∙ sym c.if-same_place.ensures)

pub returns-else-same_place-clause-found : goal.returns-else-same_place-clause-found
returns-else-same_place-clause-found c =
    let fs = c.args.fronts.now in
    let p = c.args.place.now in
    let rank = c.rank_of-rank in
    goes_here fs p rank.result c.requires (ranked fs p rank.result rank.ensures.within rank.ensures.split)
    (λ d h. ap (λ (f : Front). same_place f.place p) (get_or_default fs rank.result d c.index-fronts-rank.result h) ∙ sym c.if-same_place.ensures)
