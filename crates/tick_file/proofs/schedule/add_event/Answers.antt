use Rattle.std.proofs.Common.{◌∷◌, subst, heap_items}
use Rattle.std.specs.List.Sorted.{IsPermutation}
use Rattle.tick_file.specs.declared.pending.Pending.{Pending}
use Rattle.tick_file.proofs.Adding.{added_kept}
use Rattle.tick_file.proofs.schedule.add_event.Goals as goal

pub returns-in-Ok-clause-kept : goal.returns-in-Ok-clause-kept
returns-in-Ok-clause-kept c =
    let moved = subst (λ (p : Pending). IsPermutation (record { 0 = p } ∷ heap_items c.args.heap.now) (heap_items c.push.new.self)) c.at_start.ensures c.in-Ok.ensures.permutation in
    (added_kept (heap_items c.args.heap.now) c.requires.kept c.args.time c.args.line c.args.event c.requires.small c.requires.last (heap_items c.push.new.self) moved (c.in-Ok.ensures.heap_order c.requires.kept.heap)).0

pub returns-in-Ok-clause-ok : goal.returns-in-Ok-clause-ok
returns-in-Ok-clause-ok c =
    let moved = subst (λ (p : Pending). IsPermutation (record { 0 = p } ∷ heap_items c.args.heap.now) (heap_items c.push.new.self)) c.at_start.ensures c.in-Ok.ensures.permutation in
    (added_kept (heap_items c.args.heap.now) c.requires.kept c.args.time c.args.line c.args.event c.requires.small c.requires.last (heap_items c.push.new.self) moved (c.in-Ok.ensures.heap_order c.requires.kept.heap)).1
