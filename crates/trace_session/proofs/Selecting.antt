-- What a picture shows of spans.
use Rattle.std.proofs.Common.{◌≡◌, ℕ, zero, suc, ◌+◌, ◌&&◌, true, if◌then◌else◌, List, [], ◌∷◌, refl, ap, ap₂, ◌∙◌, le-leb, arith}
use Rattle.std.specs.List.{filter}
use Rattle.wind_machine.specs.State.{State}
use Rattle.wind_machine.specs.Run.{Answers, after}
use Rattle.board_changes.specs.Spans.{closed}
use Rattle.board_trace.specs.Before.{before_step}
use Rattle.trace_picture.specs.Areas.{areas_of}
use Rattle.trace_picture.specs.declared.areas.Area.{Area}
use Rattle.trace_session.specs.Choice.{everything, is_step}
use Rattle.trace_session.specs.Laws.{EverythingLaw}
use Rattle.trace_session.specs.Shown.{shows}
use Rattle.trace_session.specs.Spans.{looked_at, no_spans, opening_spans, part_after, part_of, spans_after}
use Rattle.trace_session.proofs.Lines.{all_lines}

-- ---- everything
all_shown : (areas : List Area) → filter (shows everything) areas ≡ areas
all_shown [] = refl
all_shown (a ∷ others) = ap (λ rest. a ∷ rest) (all_shown others)

every_step : (n : ℕ) → is_step everything (n + 1) ≡ true
every_step n = ap (λ b. b && true) (le-leb 1 (n + 1) (omega arith))

all_spans : (said : Answers) (s : State) (k : ℕ) → part_after everything said s k ≡ spans_after said s k
all_spans said s zero = ap (λ b. if b then opening_spans s else no_spans) (every_step s.steps)
all_spans said s (suc k) =
    let u = after said s k in
    let t = after said s (suc k) in
    let b = before_step u in
    let part = part_after everything said s k in
    ap₂ (λ here next. if here then (if next then looked_at b part t else closed (looked_at b part t) t.time) else (if next then opening_spans t else part)) (every_step u.steps) (every_step (u.steps + 1))
    ∙ ap (λ spans. looked_at b spans t) (all_spans said s k)

pub all_of_it : EverythingLaw
all_of_it = record {
  lines = all_lines;
  areas = λ said s k. all_shown (areas_of (part_of everything said s k).done) ∙ ap (λ spans. areas_of (closed spans (after said s k).time).done) (all_spans said s k);
}
