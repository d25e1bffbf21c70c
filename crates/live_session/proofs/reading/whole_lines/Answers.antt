use Rattle.std.proofs.Common.{◌≡◌, ◌∙◌, ◌++◌, ◌∷◌, [], ap, rules, sym}
use Rattle.std.proofs.lemmas.List.{nil_from_length}
use Rattle.live_session.specs.Cutting.{whole_lines}
use Rattle.live_session.proofs.Cuts.{ends_torn, ends_whole, other_byte}
use Rattle.live_session.proofs.reading.whole_lines.Goals as goal

-- a byte that ends no line is left out
pub loop-last-preserved : goal.loop-last-preserved
loop-last-preserved c =
    c.loop-last.invariant ∙ ap whole_lines c.in-Some.ensures.cases.0 ∙ ends_torn c.in-Some.front.now c.in-Some.last.now (other_byte c.in-Some.last.now (search rules))

-- the last line is whole
pub returns-then-last-eq10 : goal.returns-then-last-eq10
returns-then-last-eq10 c =
    let split : c.loop-last.rest.now ≡ c.in-Some.front.now ++ 10 ∷ [] = c.in-Some.ensures.cases.0 ∙ ap (λ b. c.in-Some.front.now ++ b ∷ []) (search rules) in
    sym (c.loop-last.invariant ∙ ap whole_lines split ∙ ends_whole c.in-Some.front.now ∙ sym split)

-- no byte is left
pub returns : goal.returns
returns c =
    let none : c.loop-last.rest.now ≡ [] = nil_from_length c.loop-last.rest.now (search rules) in
    none ∙ sym (c.loop-last.invariant ∙ ap whole_lines none)
