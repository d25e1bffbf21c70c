use Rattle.std.proofs.Common.{◌≡◌, ◌<◌, length, get_or, ◌∙◌, ap, sym, arith}
use Rattle.mem_partition.specs.declared.hole.Hole.{Hole}
use Rattle.mem_partition.specs.Holes.{put_gap}
use Rattle.mem_partition.proofs.Splitting.{reaching, cut_at, cut_there, none_reach}
use Rattle.mem_partition.proofs.hole.cut.Goals as goal

pub returns-then-position-len-clause-items : goal.returns-then-position-len-clause-items
returns-then-position-len-clause-items c =
    let is : c.rank_of-position.result ≡ reaching c.args.hi c.args.list.now.items = c.rank_of-position.ensures.value ∙ ap (reaching c.args.hi) c.deref.ensures.value in
    sym (none_reach c.args.lo c.args.hi c.args.list.now.items (omega (arith, c.if-position-len.true)))

pub returns-clause-items : goal.returns-clause-items
returns-clause-items c =
    let k = c.rank_of-position.result in
    let items = c.args.list.now.items in
    let hole = c.remove-hole.result in
    let is : k ≡ reaching c.args.hi items = c.rank_of-position.ensures.value ∙ ap (reaching c.args.hi) c.deref.ensures.value in
    let less : reaching c.args.hi items < length items = omega (arith, c.if-position-len.false) in
    c.put_in-2.ensures.items
    ∙ ap (put_gap k hole.start c.args.lo) (c.put_in.ensures.items ∙ ap (put_gap k c.args.hi hole.end) c.remove-hole.ensures.items)
    ∙ ap (λ (h : Hole). cut_at k c.args.lo c.args.hi h items) c.remove-hole.ensures.value
    ∙ ap (λ i. cut_at i c.args.lo c.args.hi (get_or items i hole) items) is
    ∙ cut_there c.args.lo c.args.hi items hole less
