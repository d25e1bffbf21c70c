use Rattle.std.proofs.Common.{◌≡◌, ap, length, map, refl, sym, ◌∙◌}
use Rattle.std.specs.Vec.{with_items}
use Rattle.std.proofs.lemmas.List.{length-map, with_items_is}
use Rattle.trace_coverage.specs.Covered.{with_word}
use Rattle.trace_coverage.proofs.Texts.{held_executed, held_same}
use Rattle.trace_coverage.proofs.coverage.Coverage.execute.Goals as goal

pub returns-in_default : goal.returns-in_default
returns-in_default c = λ given k holds. held_same c.args.self.now c.args.self.now given k holds c.args.at c.in_default.is

pub returns : goal.returns
returns c = λ given k holds.
    let old = c.args.self.now in
    let list = c.execute.new.list in
    let is : list ≡ map (with_word c.in-Some.at) old.live.items = c.execute.ensures ∙ ap (map (with_word c.in-Some.at)) c.deref_mut.ensures.value in
    let same_len : length list ≡ old.live.len = ap length is ∙ length-map old.live.items (with_word c.in-Some.at) ∙ sym old.live.ok.0 in
    held_executed old (record old { live = with_items old.live list }) given k holds c.args.at c.in-Some.at c.in-Some.is
    (with_items_is old.live list same_len ∙ is) refl
