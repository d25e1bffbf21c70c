use Rattle.std.proofs.Common.{◌≡◌, Some, None, sym, ◌∙◌}
use Rattle.ppc_text.specs.Lines.{value_at, values_of}
use Rattle.ppc_text.proofs.Lining.{taken_after, all_taken, none_after, comma_passed, no_value}
use Rattle.ppc_text.proofs.line.values_of.Goals as goal

pub loop-value-preserved : goal.loop-value-preserved
loop-value-preserved c =
    let e : value_at c.loop-value.left.now ≡ Some (c.in-Some.value, c.in-Some.count) = cc in
    let taken = taken_after c.loop-value.kept.items c.push.new.self.items c.loop-value.left.now c.tokens_after-left.result.now c.in-Some.value c.in-Some.count _ c.loop-value.invariant e c.in_ok-push.ensures.items c.tokens_after-left.ensures in
    let here = comma_passed c.push.new.self.items c.tokens_after-left.result.now _ taken (sym c.is_comma.ensures ∙ c.if-not-is_comma.false) in
    rw c.tokens_after-left-in-Some.ensures here

pub returns-then-is_empty : goal.returns-then-is_empty
unfolding values_of
returns-then-is_empty c =
    let e : value_at c.loop-value.left.now ≡ Some (c.in-Some.value, c.in-Some.count) = cc in
    let taken = taken_after c.loop-value.kept.items c.push.new.self.items c.loop-value.left.now c.tokens_after-left.result.now c.in-Some.value c.in-Some.count _ c.loop-value.invariant e c.in_ok-push.ensures.items c.tokens_after-left.ensures in
    all_taken c.push.new.self.items c.tokens_after-left.result.now _ taken (sym c.is_empty.ensures ∙ c.if-is_empty.true)

pub returns-then-not-is_comma : goal.returns-then-not-is_comma
unfolding values_of
returns-then-not-is_comma c =
    let e : value_at c.loop-value.left.now ≡ Some (c.in-Some.value, c.in-Some.count) = cc in
    let taken = taken_after c.loop-value.kept.items c.push.new.self.items c.loop-value.left.now c.tokens_after-left.result.now c.in-Some.value c.in-Some.count _ c.loop-value.invariant e c.in_ok-push.ensures.items c.tokens_after-left.ensures in
    none_after c.push.new.self.items c.tokens_after-left.result.now _ taken (sym c.is_empty.ensures ∙ c.if-is_empty.false) (sym c.is_comma.ensures ∙ c.if-not-is_comma.true)

pub returns : goal.returns
unfolding values_of
returns c =
    let e : value_at c.loop-value.left.now ≡ None = sym c.value_at.ensures ∙ c.in_default.is in
    no_value c.loop-value.kept.items c.loop-value.left.now _ c.loop-value.invariant e
