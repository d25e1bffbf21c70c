use Rattle.std.proofs.Common.{◌≡◌, ℕ, zero, suc, Bool, true, false, if◌then◌else◌, refl, ap, ◌∙◌}
use Rattle.wind_machine.specs.Run.{Answers, after}
use Rattle.wind_machine.specs.State.{State}
use Rattle.board_changes.specs.Spans.{SpanState, closed}
use Rattle.board_trace.specs.Before.{before_step}
use Rattle.board_trace.specs.Steps.{is_instruction}
use Rattle.trace_session.specs.Spans.{looked_at, observed_in, spans_after}
use Rattle.trace_session.specs.Watching.{WatchState, watched, watched_after}
use Rattle.trace_session.proofs.laws.summary_spans_law.Goals as goal

-- the tasks are looked at, or not
spans_by : (b : Bool) (w : WatchState) (t : State) → (if b then w else watched w t).spans ≡ (if b then w.spans else observed_in w.spans t)
spans_by true w t = refl
spans_by false w t = refl

same_spans : (said : Answers) (s : State) (k : ℕ) → (watched_after said s k).spans ≡ spans_after said s k
same_spans said s zero = refl
same_spans said s (suc k) =
    let u = after said s k in
    let t = after said s (suc k) in
    spans_by (is_instruction (before_step u) t.world.output) (watched_after said s k) t
    ∙ ap (λ (spans : SpanState). looked_at (before_step u) spans t) (same_spans said s k)

pub returns : goal.returns
returns c = λ said s k. ap (λ (spans : SpanState). (closed spans (after said s k).time).done) (same_spans said s k)
