use Rattle.std.proofs.Common.{◌≡◌, suc, ◌+◌, ◌++◌, ◌<◌, List, length, take, drop, get_or, set, ap, sym, ◌∙◌, arith}
use Rattle.std.specs.List.{remove}
use Rattle.std.proofs.lemmas.List.{get_or_default}
use Rattle.mem_partition.specs.declared.hole.Hole.{Hole}
use Rattle.mem_partition.specs.Holes.{joined}
use Rattle.mem_partition.proofs.Merging.{hole, up_through, up_alone}
use Rattle.mem_partition.proofs.hole.extend_up.Goals.{else-next-len-via-then-next-len+else-index-hi, else-next-len-via-else-next-len}
use Rattle.mem_partition.proofs.hole.extend_up.Goals as goal

pub returns-then-index-hi-clause-items : goal.returns-then-index-hi-clause-items
returns-then-index-hi-clause-items c = λ d.
    let items = c.args.list.now.items in
    let k = c.args.position in
    let x = c.index.result.now in
    let above = c.remove-end.result in
    let next : k + 1 ≡ suc k = omega arith in
    let is : above ≡ get_or items (k + 1) above = c.remove-end.ensures.value in
    let here : x ≡ get_or items k d = c.index.ensures ∙ get_or_default items k x d c.requires.position in
    let less : k + 1 < length items = omega (arith, c.if-next-len.true) in
    let begins : (get_or items (k + 1) above).start ≡ c.args.hi =
    ap (λ (h : Hole). h.start) (sym (c.index-then-next-len.ensures ∙ get_or_default items (k + 1) c.index-then-next-len.result.now above less)) ∙ c.if-index-hi.true in
    ap (λ (hs : List Hole). set hs k (hole x.start above.end)) c.remove-end.ensures.items
    ∙ ap (λ (h : Hole). set (remove items (k + 1)) k (hole x.start h.end)) is
    ∙ up_through x.start c.args.hi items k (k + 1) above next less begins
    ∙ ap (λ (h : Hole). take k items ++ joined h.start c.args.hi (drop (k + 1) items)) here

pub returns-else-next-len-clause-items : goal.returns-else-next-len-clause-items
returns-else-next-len-clause-items c = λ d.
    let items = c.args.list.now.items in
    let k = c.args.position in
    let x = c.index.result.now in
    let next : k + 1 ≡ suc k = omega arith in
    let here : x ≡ get_or items k d = c.index.ensures ∙ get_or_default items k x d c.requires.position in
    up_alone x.start c.args.hi items k (k + 1) x next c.requires.position
    (λ less begins. elim c.else-next-len.branch [
      | else-next-len-via-then-next-len+else-index-hi w ↦
          let y = w.index-then-next-len.result.now in
          absurd (w.if-index-hi.false (ap (λ (h : Hole). h.start) (w.index-then-next-len.ensures ∙ get_or_default items (k + 1) y x less) ∙ begins))
      | else-next-len-via-else-next-len w ↦ absurd (omega (arith, less, w.if-next-len.false))
    ])
    ∙ ap (λ (h : Hole). take k items ++ joined h.start c.args.hi (drop (k + 1) items)) here
