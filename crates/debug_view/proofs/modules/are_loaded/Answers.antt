use Rattle.std.proofs.Common.{◌<◌, ◌≤◌, length, get_or, refl, sym, ap, ◌∙◌, arith}
use Rattle.std.specs.Prelude.{is_none}
use Rattle.debug_view.proofs.Told.{begins, ends, flipped, goes_on, stops}
use Rattle.debug_view.proofs.modules.are_loaded.Goals as goal

pub loop-id-init : goal.loop-id-init
loop-id-init c = begins c.args.modules.now.rows c.args.told.now c.facts.ensures.ranged

pub returns-then-not-is_next : goal.returns-then-not-is_next
returns-then-not-is_next c =
    let told = c.args.told.now in
    let i = c.loop-id.id-index in
    let less : i < length told = omega (arith, c.loop-id-test.true) in
    stops c.args.modules.now.rows c.facts.ensures.rising told i c.loop-id.last (get_or told i 0) c.loop-id.invariant less refl (sym c.is_next.ensures ∙ c.if-not-is_next.true)

pub loop-id-preserved : goal.loop-id-preserved
loop-id-preserved c =
    let told = c.args.told.now in
    let i = c.loop-id.id-index in
    let less : i < length told = omega (arith, c.loop-id-test.true) in
    goes_on c.args.modules.now.rows c.facts.ensures.rising told i c.loop-id.last (get_or told i 0) c.loop-id.invariant less refl (sym c.is_next.ensures ∙ c.if-not-is_next.false)

pub returns : goal.returns
returns c =
    let told = c.args.told.now in
    let i = c.loop-id.id-index in
    let end : length told ≤ i = omega (arith, c.loop-id-test.false) in
    flipped _ _ c.is_none.ensures ∙ ap is_none c.next_after.ensures ∙ ends c.args.modules.now.rows c.facts.ensures.rising told i c.loop-id.last c.loop-id.invariant end
