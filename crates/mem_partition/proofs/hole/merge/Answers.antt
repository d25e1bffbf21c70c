use Rattle.std.proofs.Common.{◌≡◌, suc, ◌+◌, ◌++◌, List, take, drop, length, get_or, ap, sym, ◌∙◌, arith, length-append, length-take-le}
use Rattle.std.proofs.lemmas.List.{get_or_default}
use Rattle.mem_partition.specs.declared.hole.Hole.{Hole}
use Rattle.mem_partition.specs.Holes.{joined, merged}
use Rattle.mem_partition.proofs.Merging.{hole, ending_before, merged_touching, merged_apart}
use Rattle.mem_partition.proofs.hole.merge.Goals.{else-position-len-via-then-position-len+else-index-lo, else-position-len-via-else-position-len}
use Rattle.mem_partition.proofs.hole.merge.Goals as goal

pub put_joined-requires-clause-room : goal.put_joined-requires-clause-room
put_joined-requires-clause-room c =
    let items = c.args.list.now.items in
    let k = c.rank_of-position.result in
    let within = c.rank_of-position.ensures.within in
    let is : k ≡ ending_before c.args.lo items = c.rank_of-position.ensures.value ∙ ap (ending_before c.args.lo) c.deref.ensures.value in
    let whole : take k items ++ joined c.args.lo c.args.hi (drop k items) ≡ merged c.args.lo c.args.hi items =
    merged_apart c.args.lo c.args.hi items k (hole 0 0) is
    (λ less ends. elim c.else-position-len.branch [
      | else-position-len-via-then-position-len+else-index-lo w ↦
          absurd (w.if-index-lo.false (ap (λ (h : Hole). h.end) (w.index.ensures ∙ get_or_default items k w.index.result.now (hole 0 0) less) ∙ ends))
      | else-position-len-via-else-position-len w ↦ absurd (omega (arith, less, w.if-position-len.false))
    ]) in
    let size = length-append (take k items) (joined c.args.lo c.args.hi (drop k items)) in
    let front : length (take k items) ≡ k = length-take-le k items (omega arith) in
    let same = ap (λ (hs : List Hole). length hs) whole in
    let room = c.requires.room in
    omega arith

pub returns-then-index-lo-clause-items : goal.returns-then-index-lo-clause-items
returns-then-index-lo-clause-items c =
    let items = c.args.list.now.items in
    let k = c.rank_of-position.result in
    let x = c.index.result.now in
    let is : k ≡ ending_before c.args.lo items = c.rank_of-position.ensures.value ∙ ap (ending_before c.args.lo) c.deref.ensures.value in
    let next : k + 1 ≡ suc k = omega arith in
    c.extend_up.ensures.items x
    ∙ ap (λ i. take k items ++ joined (get_or items k x).start c.args.hi (drop i items)) next
    ∙ merged_touching c.args.lo c.args.hi items k x is (omega (arith, c.if-position-len.true)) (ap (λ (h : Hole). h.end) (sym c.index.ensures) ∙ c.if-index-lo.true)

pub returns-else-position-len-clause-items : goal.returns-else-position-len-clause-items
returns-else-position-len-clause-items c =
    let items = c.args.list.now.items in
    let k = c.rank_of-position.result in
    let is : k ≡ ending_before c.args.lo items = c.rank_of-position.ensures.value ∙ ap (ending_before c.args.lo) c.deref.ensures.value in
    c.put_joined.ensures.items
    ∙ merged_apart c.args.lo c.args.hi items k (hole 0 0) is
    (λ less ends. elim c.else-position-len.branch [
      | else-position-len-via-then-position-len+else-index-lo w ↦
          absurd (w.if-index-lo.false (ap (λ (h : Hole). h.end) (w.index.ensures ∙ get_or_default items k w.index.result.now (hole 0 0) less) ∙ ends))
      | else-position-len-via-else-position-len w ↦ absurd (omega (arith, less, w.if-position-len.false))
    ])
