use Rattle.std.proofs.Common.{arith, subst}
use Rattle.linked_lists.specs.Chains.{chain_at}
use Rattle.delay_queue.specs.Inside.{IsPosition}
use Rattle.delay_queue.proofs.Waiting.{passed_value, placed, passed_more}
use Rattle.delay_queue.proofs.gaps.search.Goals as goal

pub value-gap-requires : goal.value-gap-requires
value-gap-requires c = passed_value c.args.tasks.now.chains c.args.wake c.loop-passed.next c.loop-passed.left c.loop-passed._passed c.in-Some.id c.requires c.loop-passed.invariant c.in-Some.is

pub returns-then-gap-left : goal.returns-then-gap-left
returns-then-gap-left c =
    let cs = c.args.tasks.now.chains in
    let apart = c.facts.ensures.apart 0 (omega (arith, c.requires)) in
    subst (λ o. IsPosition (chain_at cs 0) c.args.wake o c.loop-passed.left) c.in-Some.is
    (placed cs c.args.wake c.loop-passed.next c.loop-passed.left c.loop-passed._passed c.in-Some.id c.value-gap.result.now c.requires apart c.loop-passed.invariant c.in-Some.is c.value-gap.ensures c.if-gap-left.true)

pub loop-passed-preserved : goal.loop-passed-preserved
loop-passed-preserved c =
    let apart = c.facts.ensures.apart 0 (omega (arith, c.requires)) in
    passed_more c.args.tasks.now.chains c.args.wake c.loop-passed.next c.next-next.result c.loop-passed.left c.loop-passed._passed c.in-Some.id c.value-gap.result.now c.requires apart c.loop-passed.invariant c.in-Some.is
    c.value-gap.ensures c.if-gap-left.false c.next-next.ensures.after
