use Rattle.std.proofs.Common.{◌≡◌, ℕ, if◌then◌else◌, Some, None, [], sym, ap, ap₂, subst, ◌∙◌}
use Rattle.std.specs.Prelude.{◌==◌, nat_eq, unwrap_or}
use Rattle.std.specs.HashMap.{get}
use Rattle.std.proofs.lemmas.Result.{on_ok_weaker}
use Rattle.trace_summary.specs.Keeping.{is_noted}
use Rattle.trace_summary.specs.Progress.{kept_of}
use Rattle.trace_summary.proofs.Keeping.{response_added, response_skipped}
use Rattle.trace_summary.proofs.response.add_response.Goals as goal

-- the span changes no response
pub returns-then-not-is_noted : goal.returns-then-not-is_noted
returns-then-not-is_noted c =
    let span = c.args.span.now in
    let old = get nat_eq c.args.tasks.now in
    let before : c.value_at-responses.result ≡ unwrap_or (old span.who) (kept_of (record { since = None; times = [] })) = c.value_at-responses.ensures ∙ ap₂ (λ w n. unwrap_or (old w) n) c.get-who.ensures.same c.none.ensures in
    λ spans kept.
    response_skipped span spans old kept (ap (is_noted span.look.standing) (sym before) ∙ sym c.is_noted.ensures ∙ c.if-not-is_noted.true)

pub returns : goal.returns
returns c =
    let span = c.args.span.now in
    let old = get nat_eq c.args.tasks.now in
    let new = get nat_eq c.put_at.new.values in
    let before : c.value_at-responses.result ≡ unwrap_or (old span.who) (kept_of (record { since = None; times = [] })) = c.value_at-responses.ensures ∙ ap₂ (λ w n. unwrap_or (old w) n) c.get-who.ensures.same c.none.ensures in
    on_ok_weaker c.put_at.result
    (λ put spans kept. response_added span spans old kept new c.with_own.result (subst (λ w. (q : ℕ) → new q ≡ (if w == q then Some c.with_own.result else old q)) c.get-who.ensures.same put) (λ r is. c.with_own.ensures r (before ∙ is)))
    c.put_at.ensures
