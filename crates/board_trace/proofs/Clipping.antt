-- No span goes on after the end of its run.
use Rattle.std.proofs.Common.{◌≡◌, ℕ, ◌≤◌, true, false, cond, eqb, leb, ltb, List, [], ◌∷◌, ◌++◌, Option, None, Some, refl, ap, ◌∙◌, arith}
use Rattle.std.specs.Prelude.{nat_lt}
use Rattle.std.proofs.lemmas.Bool.{and_right, le-ltb}
use Rattle.board_changes.specs.Looks.{is_same, look_of}
use Rattle.board_changes.specs.Spans.{all_ended, all_ends, ended, ends, view_of}
use Rattle.board_changes.specs.Tiling.{AreInOrder, Observation, covers, last_time, said_at, spans_after, spans_until}
use Rattle.board_changes.specs.declared.spans.Open.{Open}
use Rattle.board_changes.specs.declared.spans.Span.{Span}
use Rattle.board_changes.specs.declared.view.TaskView.{TaskView}

module _ (e : ℕ) where
  -- each of these spans ends by e
  abbrev AllBy : List Span → Type 0
  AllBy [] = Unit {0}
  AllBy (s ∷ ss) = (s.to ≤ e) × AllBy ss

  both_by : (xs ys : List Span) → AllBy xs → AllBy ys → AllBy (xs ++ ys)
  both_by [] ys a b = b
  both_by (x ∷ xs) ys a b = (a.0, both_by xs ys a.1 b)

  module _ (time : ℕ) (up : time ≤ e) where
    ended_by : (o : Open) → AllBy (ended o time)
    ended_by o =
        let span : Span = record { who = o.who; look = o.look; from = o.from; to = time } in
        elim (nat_lt o.from time) as (λ b. AllBy (cond b (span ∷ []) [])) [ true ↦ (up, tt) | false ↦ tt ]

    ends_by : (view : Option TaskView) (runner : Option ℕ) (o : Open) → AllBy (ends view runner time o)
    ends_by None runner o = ended_by o
    ends_by (Some v) runner o = elim (is_same o.look (look_of runner v)) as (λ b. AllBy (cond b [] (ended o time))) [ true ↦ tt | false ↦ ended_by o ]

    all_ends_by : (views : List TaskView) (runner : Option ℕ) (os : List Open) → AllBy (all_ends views runner time os)
    all_ends_by views runner [] = tt
    all_ends_by views runner (o ∷ os) =
        both_by (ends (view_of views o.who) runner time o) (all_ends views runner time os) (ends_by (view_of views o.who) runner o) (all_ends_by views runner os)

    all_ended_by : (os : List Open) → AllBy (all_ended time os)
    all_ended_by [] = tt
    all_ended_by (o ∷ os) = both_by (ended o time) (all_ended time os) (ended_by o) (all_ended_by os)

  done_by : (ms : List Observation) → AreInOrder ms → last_time ms ≤ e → AllBy (spans_after ms).done
  done_by [] order up = tt
  done_by (m ∷ ms) order up =
      let before : last_time ms ≤ m.time = order.0 in
      both_by (spans_after ms).done (all_ends m.views m.runner m.time (spans_after ms).going) (done_by ms order.2 (omega arith)) (all_ends_by m.time up m.views m.runner (spans_after ms).going)

  silent_by : (who t : ℕ) → e ≤ t → (ss : List Span) → AllBy ss → said_at who t ss ≡ []
  silent_by who t late [] all = refl
  silent_by who t late (s ∷ ss) all =
      let to_end : s.to ≤ e = all.0 in
      let gone : ltb t s.to ≡ false = le-ltb t s.to (omega arith) in
      let none : covers who t s ≡ false = and_right (eqb s.who who) _ (and_right (leb s.from t) (ltb t s.to) gone) in
      ap (λ b. cond b (s.look ∷ []) [] ++ said_at who t ss) none ∙ silent_by who t late ss all.1

pub none_past : (ms : List Observation) (end who t : ℕ) → AreInOrder ms → last_time ms ≤ end → end ≤ t → said_at who t (spans_until end ms) ≡ []
none_past ms end who t order up late =
    let same : end ≤ end = omega arith in
    silent_by end who t late (spans_until end ms)
    (both_by end (spans_after ms).done (all_ended end (spans_after ms).going) (done_by end ms order up) (all_ended_by end end same (spans_after ms).going))
