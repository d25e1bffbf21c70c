-- One more span at the end.
use Rattle.std.proofs.Common.{◌≡◌, ℕ, List, [], ◌∷◌, ◌++◌, refl}
use Rattle.board_changes.specs.declared.spans.Span.{Span}
use Rattle.trace_summary.specs.Stretches.{ResponseState, response_after, responses_after, with_span, with_spans}
use Rattle.trace_summary.specs.declared.stretch.Kind.{Kind}
use Rattle.trace_summary.specs.declared.stretch.Stretch.{Stretch}

pub with_end : (kind : Kind) (who : ℕ) (xs : List Span) (s : Span) (made : List Stretch) → with_spans kind who (xs ++ s ∷ []) made ≡ with_span kind who s (with_spans kind who xs made)
with_end kind who [] s made = refl
with_end kind who (x ∷ xs) s made = with_end kind who xs s (with_span kind who x made)

pub response_end : (who : ℕ) (xs : List Span) (s : Span) (r : ResponseState) → responses_after who (xs ++ s ∷ []) r ≡ response_after who s (responses_after who xs r)
response_end who [] s r = refl
response_end who (x ∷ xs) s r = response_end who xs s (response_after who x r)
