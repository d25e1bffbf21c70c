use Rattle.std.proofs.Common.{◌∙◌, ◌<◌, sym, subst, refl, length, arith}
use Rattle.std.specs.Prelude.{IsSome}
use Rattle.wait_order.specs.Inside.{waiters_in, IsPlace}
use Rattle.wait_order.proofs.Standing.{own_one, own_apart, own_value, own_length}
use Rattle.wait_order.proofs.Walking.{ahead, further, place_here, place_end, place_passed}
use Rattle.wait_order.proofs.runs.place_of.Goals as goal

pub returns-in_default : goal.returns-in_default
returns-in_default c =
    let ws = waiters_in c.args.waiters.now.chains in
    subst (λ o. IsPlace ws o c.args.waiter.now) c.in_default.is (place_end ws c.args.waiter.now c.loop-passed.next c.loop-passed.invariant.0 c.in_default.is)

pub value-requires : goal.value-requires
value-requires c =
    let cs = c.args.waiters.now.chains in
    let one : 0 < length cs = omega (arith, own_one cs c.requires.own) in
    let found = ahead (waiters_in cs) c.args.waiter.now c.loop-passed.next c.in-Some.id (own_apart cs c.requires.own (c.facts.ensures.apart 0 one)) c.loop-passed.invariant.0 c.in-Some.is in
    subst IsSome (sym (own_value cs c.requires.own c.in-Some.id ∙ found.found)) refl

pub returns-then-not-precedes : goal.returns-then-not-precedes
returns-then-not-precedes c =
    let cs = c.args.waiters.now.chains in
    let w = c.args.waiter.now in
    let one : 0 < length cs = omega (arith, own_one cs c.requires.own) in
    subst (λ o. IsPlace (waiters_in cs) o w) c.in-Some.is
    (place_here cs w c.value.result.now c.loop-passed.next c.in-Some.id c.requires.own (c.facts.ensures.apart 0 one) c.loop-passed.invariant.0 c.in-Some.is c.value.ensures (sym c.precedes.ensures ∙ grind (arith, c.if-not-precedes.true)))

pub loop-passed-preserved : goal.loop-passed-preserved
loop-passed-preserved c =
    let cs = c.args.waiters.now.chains in
    let w = c.args.waiter.now in
    let one : 0 < length cs = omega (arith, own_one cs c.requires.own) in
    let more = further cs w c.value.result.now c.loop-passed.next c.next-next.result c.in-Some.id c.requires.own (c.facts.ensures.apart 0 one) c.loop-passed.invariant.0 c.in-Some.is c.value.ensures (sym c.precedes.ensures ∙ grind (arith, c.if-not-precedes.false)) c.next-next.ensures.after in
    (more.0, omega (arith, more.1, c.loop-passed.invariant.1))

pub returns : goal.returns
returns c =
    let cs = c.args.waiters.now.chains in
    place_passed (waiters_in cs) c.args.waiter.now c.loop-passed.next c.loop-passed.invariant.0 (omega (arith, c.loop-passed.invariant.1, c.loop-passed-test.false, c.len-passed-end.ensures, own_length cs c.requires.own))
