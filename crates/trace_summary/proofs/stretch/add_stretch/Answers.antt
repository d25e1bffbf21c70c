use Rattle.std.proofs.Common.{◌≡◌, ℕ, if◌then◌else◌, Some, [], sym, ap, ap₂, subst, ◌∙◌}
use Rattle.std.specs.Prelude.{◌==◌, nat_eq, unwrap_or}
use Rattle.std.specs.HashMap.{get}
use Rattle.std.proofs.lemmas.Result.{on_ok_weaker}
use Rattle.trace_summary.specs.Progress.{progress_of}
use Rattle.trace_summary.specs.Stretches.{with_stretch}
use Rattle.trace_summary.proofs.Keeping.{stretch_added, stretch_skipped}
use Rattle.trace_summary.proofs.stretch.add_stretch.Goals as goal

-- the span is of another kind
pub returns-then-not-has_kind : goal.returns-then-not-has_kind
returns-then-not-has_kind c = λ spans kept.
    stretch_skipped c.args.kind c.args.span.now spans (get nat_eq c.args.tasks.now) kept (sym c.has_kind.ensures ∙ c.if-not-has_kind.true)

pub returns : goal.returns
returns c =
    let span = c.args.span.now in
    let old = get nat_eq c.args.tasks.now in
    let new = get nat_eq c.put_at.new.values in
    let before : c.value_at.result ≡ unwrap_or (old span.who) (progress_of []) = c.value_at.ensures ∙ ap₂ (λ w n. unwrap_or (old w) n) c.get-who.ensures.same c.none.ensures in
    on_ok_weaker c.put_at.result
    (λ put spans kept. stretch_added c.args.kind span spans old kept new c.with_stretch-progress.result (sym c.has_kind.ensures ∙ c.if-not-has_kind.false)
    (subst (λ w. (q : ℕ) → new q ≡ (if w == q then Some c.with_stretch-progress.result else old q)) c.get-who.ensures.same put)
    (λ made is. c.with_stretch-progress.ensures made (before ∙ is) ∙ ap (λ s. progress_of (with_stretch s made)) c.stretch_of.ensures))
    c.put_at.ensures
