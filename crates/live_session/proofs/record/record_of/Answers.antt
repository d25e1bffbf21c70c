use Rattle.std.proofs.Common.{◌∙◌, List, subst, sym, ℕ}
use Rattle.live_session.specs.Cutting.{IsTextOf}
use Rattle.live_session.proofs.Starting.{record_at_start}
use Rattle.live_session.proofs.record.record_of.Goals as goal

pub returns-clause-record : goal.returns-clause-record
returns-clause-record c =
    let texts = c.args.texts.now in
    record_at_start c.in_ok-ticks.ticks texts.console.items texts.lines texts.last
    (subst (λ (text : List ℕ). IsTextOf texts.console.items text texts.lines texts.last) (sym (c.in_ok-ticks.ensures.holds ∙ c.deref-2.ensures.value)) c.requires.texts)
    c.in_ok-ticks.ensures.within
