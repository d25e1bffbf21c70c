-- Spans that go on: the tasks are the same and look the same.
use Rattle.std.proofs.Common.{◌≡◌, ℕ, ◌<◌, true, cond, eqb, ltb, List, [], ◌∷◌, ◌++◌, map, Option, refl, sym, ap, ap₂, subst, ◌∙◌, append_assoc, arith}
use Rattle.std.specs.Prelude.{◌&&◌}
use Rattle.std.proofs.lemmas.Bool.{and_parts, eqb-true, ltb-true}
use Rattle.std.proofs.lemmas.List.{append-nil}
use Rattle.board_changes.specs.Looks.{look_of, is_same}
use Rattle.board_changes.specs.Spans.{SpanState, all_ends, all_kept, ended, ends, goes_on, going_after, is_kept, observed, open_task, opened}
use Rattle.board_changes.specs.Views.{task_id}
use Rattle.board_changes.specs.declared.spans.Open.{Open}
use Rattle.board_changes.specs.declared.spans.Span.{Span}
use Rattle.board_changes.specs.declared.view.TaskView.{TaskView}
use Rattle.board_changes.proofs.Above.{AreUpTo, first_above, one_above}

module _ (runner : Option ℕ) where
  -- what a first pair shows
  record FirstKept (low : ℕ) (o : Open) (t : TaskView) (os : List Open) (ts : List TaskView) : Type 0 where
    up : low < o.who
    same : o.who ≡ t.id
    look : is_same o.look (look_of runner t) ≡ true
    rest : all_kept runner o.who os ts ≡ true

  first_kept : (low : ℕ) (o : Open) (t : TaskView) (os : List Open) (ts : List TaskView) → all_kept runner low (o ∷ os) (t ∷ ts) ≡ true → FirstKept low o t os ts
  first_kept low o t os ts kept =
      let both = and_parts (ltb low o.who) (is_kept runner o t && all_kept runner o.who os ts) kept in
      let later = and_parts (is_kept runner o t) (all_kept runner o.who os ts) both.1 in
      let here = and_parts (eqb o.who t.id) (is_same o.look (look_of runner t)) later.0 in
      record { up = ltb-true low o.who both.0; same = eqb-true o.who t.id here.0; look = here.1; rest = later.1 }

  module _ (time : ℕ) where
    -- the spans that go on stay
    same_going : (low : ℕ) (before os : List Open) (ts : List TaskView) → AreUpTo open_task low before → all_kept runner low os ts ≡ true → map (going_after (before ++ os) time runner) ts ≡ os
    same_going low before [] [] all kept = refl
    same_going low before [] (t ∷ ts) all kept = absurd (cc)
    same_going low before (o ∷ os) [] all kept = absurd (cc)
    same_going low before (o ∷ os) (t ∷ ts) all kept =
        let first = first_kept low o t os ts kept in
        let up : low < o.who = first.up in
        let same : o.who ≡ t.id = first.same in
        let this : going_after (before ++ o ∷ os) time runner t ≡ o =
        ap (λ g. goes_on g t.id time (look_of runner t)) (first_above open_task before os o low t.id all (omega arith) same)
        ∙ ap (λ b. cond b o (opened t.id time (look_of runner t))) first.look in
        ap₂ (λ x xs. x ∷ xs) this
        (ap (λ xs. map (going_after xs time runner) ts) (sym (append_assoc before (o ∷ []) os))
        ∙ same_going o.who (before ++ o ∷ []) os ts (one_above open_task before o low all up) first.rest)

    -- and none ends
    no_ends : (low : ℕ) (before ts : List TaskView) (os : List Open) → AreUpTo task_id low before → all_kept runner low os ts ≡ true → all_ends (before ++ ts) runner time os ≡ []
    no_ends low before [] [] all kept = refl
    no_ends low before (t ∷ ts) [] all kept = absurd (cc)
    no_ends low before [] (o ∷ os) all kept = absurd (cc)
    no_ends low before (t ∷ ts) (o ∷ os) all kept =
        let first = first_kept low o t os ts kept in
        let up : low < o.who = first.up in
        let same : o.who ≡ t.id = first.same in
        let next : AreUpTo task_id t.id (before ++ t ∷ []) = one_above task_id before t low all (omega arith) in
        ap (λ v. ends v runner time o ++ all_ends (before ++ t ∷ ts) runner time os) (first_above task_id before ts t low o.who all up (sym same))
        ∙ ap (λ b. cond b [] (ended o time) ++ all_ends (before ++ t ∷ ts) runner time os) first.look
        ∙ ap (λ vs. all_ends vs runner time os) (sym (append_assoc before (t ∷ []) ts))
        ∙ no_ends o.who (before ++ t ∷ []) ts os (subst (λ n. AreUpTo task_id n (before ++ t ∷ [])) (sym same) next) first.rest

    pub nothing_observed : (s : SpanState) (views : List TaskView) → all_kept runner 0 s.going views ≡ true → s ≡ observed s time views runner
    nothing_observed s views kept =
        let both : List Open → List Span → SpanState = λ g d. record { going = g; done = d } in
        sym (ap₂ both (same_going 0 [] s.going views tt kept) (ap (λ e. s.done ++ e) (no_ends 0 [] views s.going tt kept) ∙ append-nil s.done))
