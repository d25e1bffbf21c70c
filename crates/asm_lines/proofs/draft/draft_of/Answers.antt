use Rattle.std.proofs.Common.{◌+◌, [], map, drop, sym, ap, ◌∙◌, refl, subst, arith}
use Rattle.ppc_text.specs.Lines.{line_of}
use Rattle.asm_lines.specs.Causes.{judged, items, Tells}
use Rattle.source_text.specs.Lines.{pieces}
use Rattle.source_text.proofs.Cutting.{cut_at, last_at}
use Rattle.asm_lines.proofs.draft.draft_of.Goals as goal

pub loop-len-init : goal.loop-len-init
unfolding items
loop-len-init c = record { len = c.line_len-len.ensures.exact; count = omega arith; small = c.new_draft-draft.ensures.small; good = ([], c.new_draft-draft.ensures.draft, refl) }

pub returns-in-Err-clause-bad : goal.returns-in-Err-clause-bad
returns-in-Err-clause-bad c =
    let k = c.loop-len in
    let g = k.invariant.good in
    subst (λ r. Tells r c.in-Err.error)
    (ap (λ ls. judged g.0 k.number (map line_of ls)) (sym (cut_at k.len k.left.now k.invariant.len c.loop-len-test.true)) ∙ g.2)
    (c.in-Err.ensures.bad g.0 g.1 (map line_of (pieces (drop (k.len + 1) k.left.now))))

pub loop-len-preserved : goal.loop-len-preserved
loop-len-preserved c =
    let k = c.loop-len in
    let g = k.invariant.good in
    let x = c.in_default.ensures.good g.0 g.1 in
    record {
      len = c.line_len-len-in-loop-len.ensures.exact;
      count = omega (arith, c.bytes_after-left.ensures.len, k.invariant.count);
      small = c.in_default.ensures.small;
      good = (
        x.0,
        x.1,
        ap (λ bs. judged x.0 (k.number + 1) (map line_of (pieces bs))) c.bytes_after-left.ensures.value
            ∙ sym (x.2 (map line_of (pieces (drop (k.len + 1) k.left.now))))
            ∙ ap (λ ls. judged g.0 k.number (map line_of ls)) (sym (cut_at k.len k.left.now k.invariant.len c.loop-len-test.true)) ∙ g.2,
      );
    }

pub returns-in-Ok-clause-good : goal.returns-in-Ok-clause-good
returns-in-Ok-clause-good c =
    let k = c.loop-len in
    let g = k.invariant.good in
    let x = c.in-Ok.ensures.good g.0 g.1 in
    (x.0, x.1, c.in-Ok.ensures.small, sym g.2 ∙ ap (λ ls. judged g.0 k.number (map line_of ls)) (last_at k.len k.left.now k.invariant.len c.loop-len-test.false) ∙ x.2 [])

pub returns-clause-bad : goal.returns-clause-bad
returns-clause-bad c =
    let k = c.loop-len in
    let g = k.invariant.good in
    subst (λ r. Tells r c.in-Err-judge.error)
    (ap (λ ls. judged g.0 k.number (map line_of ls)) (sym (last_at k.len k.left.now k.invariant.len c.loop-len-test.false)) ∙ g.2)
    (c.in-Err-judge.ensures.bad g.0 g.1 [])
