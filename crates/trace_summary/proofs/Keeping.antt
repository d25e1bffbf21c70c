-- A span ends: what is kept of each task.
use Rattle.std.proofs.Common.{◌≡◌, ℕ, Bool, true, false, if◌then◌else◌, List, [], ◌∷◌, ◌++◌, Option, None, Some, refl, sym, ap, ◌∙◌}
use Rattle.std.specs.Prelude.{◌&&◌, ◌==◌, is_some, unwrap_or}
use Rattle.std.proofs.lemmas.Bool.{eqb-true}
use Rattle.board_changes.specs.declared.look.Standing.{Standing}
use Rattle.board_changes.specs.declared.look.Standing.TheVariants as standings
use Rattle.board_changes.specs.declared.spans.Span.{Span}
use Rattle.trace_summary.specs.Keeping.{KeepsResponses, KeepsStretches, is_noted}
use Rattle.trace_summary.specs.Progress.{kept_of, progress_of}
use Rattle.trace_summary.specs.Stretches.{ResponseState, has_kind, response_by, responses_after, stretch_of, stretches, with_response, with_stretch}
use Rattle.trace_summary.specs.declared.response.Responses.{Responses}
use Rattle.trace_summary.specs.declared.stretch.Kind.{Kind}
use Rattle.trace_summary.specs.declared.stretch.Progress.{Progress}
use Rattle.trace_summary.specs.declared.stretch.Stretch.{Stretch}
use Rattle.trace_summary.proofs.Longest.{response_end, with_end}

and_no : (b : Bool) → (b && false) ≡ false
and_no true = refl
and_no false = refl

-- ---- stretches
module _ (kind : Kind) (s : Span) (spans : List Span) (old : ℕ → Option Progress) (kept : KeepsStretches kind spans old) where
  abbrev longer_by : Bool → Bool → ℕ → Progress
  longer_by a b who = progress_of (if a && b then with_stretch (stretch_of s) (stretches kind who spans) else stretches kind who spans)

  at_end : (who : ℕ) → longer_by (s.who == who) (has_kind kind s.look) who ≡ progress_of (stretches kind who (spans ++ s ∷ []))
  at_end who = ap progress_of (sym (with_end kind who spans s []))

  -- the span is of another kind
  pub stretch_skipped : has_kind kind s.look ≡ false → KeepsStretches kind (spans ++ s ∷ []) old
  stretch_skipped other = record {
    same = λ who.
        kept.same who
        ∙ ap (λ b. progress_of (if b then with_stretch (stretch_of s) (stretches kind who spans) else stretches kind who spans)) (sym (and_no (s.who == who)))
        ∙ ap (λ b. longer_by (s.who == who) b who) (sym other)
        ∙ at_end who;
  }

  module _ (new : ℕ → Option Progress) (p : Progress) (is : has_kind kind s.look ≡ true) (put : (q : ℕ) → new q ≡ (if s.who == q then Some p else old q))
      (adds : (made : List Stretch) → unwrap_or (old s.who) (progress_of []) ≡ progress_of made → p ≡ progress_of (with_stretch (stretch_of s) made)) where
    stretch_by : (b : Bool) (who : ℕ) → (s.who == who) ≡ b → unwrap_or (if b then Some p else old who) (progress_of []) ≡ longer_by b true who
    stretch_by true who same =
        adds (stretches kind s.who spans) (kept.same s.who)
        ∙ ap (λ n. progress_of (with_stretch (stretch_of s) (stretches kind n spans))) (eqb-true s.who who same)
    stretch_by false who same = kept.same who

    -- it is of this kind
    pub stretch_added : KeepsStretches kind (spans ++ s ∷ []) new
    stretch_added = record {
      same = λ who.
          ap (λ o. unwrap_or o (progress_of [])) (put who)
          ∙ stretch_by (s.who == who) who refl
          ∙ ap (λ b. longer_by (s.who == who) b who) (sym is)
          ∙ at_end who;
    }

-- ---- responses
abbrev nothing : ResponseState
nothing = record { since = None; times = [] }

not_run : (o : Option ℕ) (time : ℕ) (times : List ℕ) → is_some o ≡ false → kept_of (record { since = o; times = times }) ≡ kept_of (record { since = None; times = with_response o time times })
not_run None time times e = refl
not_run (Some since) time times e = absurd (cc)

not_noted : (standing : Standing) (s : Span) (r : ResponseState) → is_noted standing (kept_of r) ≡ false → kept_of r ≡ kept_of (response_by standing s r)
not_noted standings.Waiting s r e = absurd (cc)
not_noted standings.Running s r e = not_run r.since s.from r.times e
not_noted standings.Ready s r e = refl
not_noted standings.Sleeping s r e = refl
not_noted standings.Suspended s r e = refl

module _ (s : Span) (spans : List Span) (old : ℕ → Option Responses) (kept : KeepsResponses spans old) where
  abbrev made : ℕ → ResponseState
  made who = responses_after who spans nothing

  abbrev response_of : Bool → ℕ → Responses
  response_of b who = kept_of (if b then response_by s.look.standing s (made who) else made who)

  last : (who : ℕ) → response_of (s.who == who) who ≡ kept_of (responses_after who (spans ++ s ∷ []) nothing)
  last who = ap kept_of (sym (response_end who spans s nothing))

  module _ (other : is_noted s.look.standing (unwrap_or (old s.who) (kept_of nothing)) ≡ false) where
    left_by : (b : Bool) (who : ℕ) → (s.who == who) ≡ b → kept_of (made who) ≡ response_of b who
    left_by true who same =
        let e : is_noted s.look.standing (kept_of (made s.who)) ≡ false = ap (is_noted s.look.standing) (sym (kept.same s.who)) ∙ other in
        ap (λ n. kept_of (made n)) (sym (eqb-true s.who who same))
        ∙ not_noted s.look.standing s (made s.who) e
        ∙ ap (λ n. kept_of (response_by s.look.standing s (made n))) (eqb-true s.who who same)
    left_by false who same = refl

    -- the span changes no response
    pub response_skipped : KeepsResponses (spans ++ s ∷ []) old
    response_skipped = record { same = λ who. kept.same who ∙ left_by (s.who == who) who refl ∙ last who }

  module _ (new : ℕ → Option Responses) (p : Responses) (put : (q : ℕ) → new q ≡ (if s.who == q then Some p else old q))
      (adds : (r : ResponseState) → unwrap_or (old s.who) (kept_of nothing) ≡ kept_of r → p ≡ kept_of (response_by s.look.standing s r)) where
    response_with : (b : Bool) (who : ℕ) → (s.who == who) ≡ b → unwrap_or (if b then Some p else old who) (kept_of nothing) ≡ response_of b who
    response_with true who same =
        adds (made s.who) (kept.same s.who)
        ∙ ap (λ n. kept_of (response_by s.look.standing s (made n))) (eqb-true s.who who same)
    response_with false who same = kept.same who

    -- it changes those of its task
    pub response_added : KeepsResponses (spans ++ s ∷ []) new
    response_added = record { same = λ who. ap (λ o. unwrap_or o (kept_of nothing)) (put who) ∙ response_with (s.who == who) who refl ∙ last who }
