use Rattle.std.proofs.Common.{rules, ap, ◌∙◌, ◌<◌, ◌≤◌, ◌≡◌, subst}
use Rattle.tick_file.specs.Inside.{moved_on}
use Rattle.tick_file.proofs.Heaps.{moved_kept, last_kept}
use Rattle.tick_file.proofs.schedule.drop_next.Goals as goal

pub returns-then-rule-gt1 : goal.returns-then-rule-gt1
returns-then-rule-gt1 c =
    let h = c.in-Some.ensures in
    let more : 1 < c.in-Some.top.top.0.left = subst (λ r. 1 < r.0.left) c.deref.ensures c.if-rule-gt1.true in
    let is : c.moved_on.result ≡ moved_on c.in-Some.top.top.0 = c.moved_on.ensures ∙ ap (λ r. moved_on r.0) c.deref.ensures in
    let both = moved_kept _ _ _ c.requires h.permutation (h.greatest c.requires.heap) _ _ more is (c.drop-top.ensures.permutation (search rules)) (c.drop-top.ensures.heap_order (search rules) (h.heap_order c.requires.heap)) in
    let kept = both.0 in
    let events = both.1 in
    record { kept = search rules; events = search rules }

pub returns : goal.returns
returns c =
    let h = c.in-Some.ensures in
    let last : c.in-Some.top.top.0.left ≤ 1 = subst (λ r. r.0.left ≤ 1) c.deref.ensures c.if-rule-gt1.false in
    let both = last_kept _ _ _ c.requires h.permutation (h.greatest c.requires.heap) _ last c.pop.ensures.permutation (c.pop.ensures.heap_order (h.heap_order c.requires.heap)) in
    let kept = both.0 in
    let events = both.1 in
    record { kept = search rules; events = search rules }
