use Rattle.std.proofs.Common.{◌≡◌, ◌<◌, length, get_or, set, ap, sym, ◌∙◌, arith}
use Rattle.std.proofs.lemmas.List.{get_or_default}
use Rattle.mem_partition.specs.declared.hole.Hole.{Hole}
use Rattle.mem_partition.proofs.Merging.{hole, extended_down}
use Rattle.mem_partition.proofs.hole.put_joined.Goals as goal

pub returns-then-index-hi-clause-items : goal.returns-then-index-hi-clause-items
returns-then-index-hi-clause-items c =
    let items = c.args.list.now.items in
    let k = c.args.position in
    let x = c.index.result.now in
    let y = c.index_mut.result.now in
    let less : k < length items = omega (arith, c.if-position-len.true) in
    let begins : (get_or items k x).start ≡ c.args.hi = ap (λ (h : Hole). h.start) (sym c.index.ensures) ∙ c.if-index-hi.true in
    ap (λ (h : Hole). set items k (hole c.args.lo h.end)) (c.index_mut.ensures.value ∙ get_or_default items k y x less)
    ∙ extended_down c.args.lo c.args.hi items k x less begins
