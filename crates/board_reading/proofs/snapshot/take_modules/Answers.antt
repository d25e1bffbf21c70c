use Rattle.std.proofs.Common.{[], ◌∷◌, ◌++◌, Some, ap, sym, ◌∙◌, arith}
use Rattle.board_reading.proofs.Taking.{all_taken, next_rises, none_taken, one_taken}
use Rattle.board_reading.proofs.snapshot.take_modules.Goals as goal

pub loop-id-init : goal.loop-id-init
loop-id-init c = none_taken _ _ c.facts.ensures.ranged c.clear.ensures.items

pub loop-id-smaller : goal.loop-id-smaller
loop-id-smaller c =
    let up = next_rises _ _ _ c.loop-id.invariant c.get-last.result (sym c.next_after.ensures ∙ c.in-Some.is ∙ ap Some (sym c.get-last.ensures.same)) in
    omega (arith, up, c.get-last.ensures.greatest)

pub loop-id-preserved : goal.loop-id-preserved
loop-id-preserved c =
    one_taken _ _ _ c.loop-id.invariant c.get-last.result c.add.new.list.items c.facts.ensures.rising
    (sym c.next_after.ensures ∙ c.in-Some.is ∙ ap Some (sym c.get-last.ensures.same))
    (c.in_ok-add.ensures ∙ ap (λ i. c.loop-id.taken.items ++ i ∷ []) (sym c.get-last.ensures.same))

pub returns : goal.returns
returns c = all_taken _ _ _ c.loop-id.invariant (sym c.next_after.ensures ∙ c.in_default.is)
