-- The spans of a choice's steps are those of a part of the run.
use Rattle.std.proofs.Common.{◌≡◌, ◌⊎◌, ℕ, zero, suc, ◌+◌, ◌-◌, ◌<◌, ◌≤◌, Bool, true, false, cond, leb, [], ◌∷◌, Option, None, Some, inl, inr, refl, sym, ap, ap₂, subst, ◌∙◌, arith}
use Rattle.std.specs.Prelude.{◌&&◌, IsSome, unwrap_or}
use Rattle.std.proofs.lemmas.Bool.{and_right, le-leb, leb-true, lt-leb}
use Rattle.std.proofs.lemmas.List.{append-nil}
use Rattle.wind_machine.specs.Laws.{CountLaw}
use Rattle.wind_machine.specs.Machine.{machine_step}
use Rattle.wind_machine.specs.State.{State}
use Rattle.wind_machine.specs.Run.{Answers, after}
use Rattle.board_changes.specs.Spans.{SpanState, closed}
use Rattle.board_changes.specs.Tiling.{spans_after as spans_made}
use Rattle.board_trace.proofs.Observing.{later_state}
use Rattle.board_trace.specs.Before.{before_step}
use Rattle.board_trace.specs.Observed.{later, observation_of, observations, part_observations, part_spans}
use Rattle.board_trace.specs.Steps.{is_instruction}
use Rattle.trace_session.specs.Choice.{ChoiceState, is_step, is_up_to}
use Rattle.trace_session.specs.Laws.{ArePart, PartLaw}
use Rattle.trace_session.specs.Spans.{looked_at, looked_by, looked_in, looked_outside, no_spans, observed_in, opening_spans, part_after, part_of, spans_after}

-- ---- spans and observations
-- the spans of a run are those made of its observations
same_made : (said : Answers) (s : State) (k : ℕ) → spans_after said s k ≡ spans_made (observations said s k)
same_made said s zero = refl
same_made said s (suc k) =
    let t = after said s (suc k) in
    let before = spans_after said s k in
    elim (is_instruction (before_step (after said s k)) t.world.output) as (λ b. cond b before (observed_in before t) ≡ spans_made (cond b (observations said s k) (observation_of t ∷ observations said s k))) [
      | true ↦ same_made said s k
      | false ↦ ap (λ spans. observed_in spans t) (same_made said s k)
    ]

-- ---- numbers of steps
pub counted : CountLaw → (said : Answers) (s : State) (k : ℕ) → s.steps ≡ 0 → ((j : ℕ) → j < k → IsSome (machine_step (said j) (after said s j))) → (j : ℕ) → j ≤ k → (after said s j).steps ≡ j
counted law said s k start made zero up = start
counted law said s k start made (suc j) up =
    let u = after said s j in
    let before : u.steps ≡ j = counted law said s k start made j (omega arith) in
    elim (machine_step (said j) u) as (λ o. machine_step (said j) u ≡ o → IsSome o → (unwrap_or o u).steps ≡ suc j) [
      | None ↦ λ e none. absurd (cc)
      | Some t ↦ λ e some. let one : t.steps ≡ u.steps + 1 = law (said j) u t e in omega arith
    ] refl (made j (omega arith))

pub up_to_less : (o : Option ℕ) (i k : ℕ) → i ≤ k → is_up_to o k ≡ true → is_up_to o i ≡ true
up_to_less None i k less up = refl
up_to_less (Some last) i k less up = let high : k ≤ last = leb-true k last up in le-leb i last (omega arith)

module _ (c : ChoiceState) (k m n : ℕ) (part : ArePart c k m n) where
  not_yet : (j : ℕ) → j < m → is_step c (j + 1) ≡ false
  not_yet j low =
      let late : leb (m + 1) (j + 1) ≡ false = lt-leb (m + 1) (j + 1) (omega arith) in
      ap (λ f. leb f (j + 1) && is_up_to c.last (j + 1)) part.first ∙ ap (λ b. b && is_up_to c.last (j + 1)) late

  is_one : (j : ℕ) → m ≤ j → j < m + n → is_step c (j + 1) ≡ true
  is_one j low high =
      let early : leb (m + 1) (j + 1) ≡ true = le-leb (m + 1) (j + 1) (omega arith) in
      let up : is_up_to c.last (j + 1) ≡ true =
      elim part.last [
        | inl last ↦ (ap (λ o. is_up_to o (j + 1)) last ∙ le-leb (j + 1) (m + n) (omega arith))
        | inr whole ↦ (let made : m + n ≡ k = whole.0 in up_to_less c.last (j + 1) k (omega arith) whole.1)
      ] in
      ap (λ f. leb f (j + 1) && is_up_to c.last (j + 1)) part.first ∙ ap₂ (λ a b. a && b) early up

  no_more : c.last ≡ Some (m + n) → (j : ℕ) → m + n ≤ j → is_step c (j + 1) ≡ false
  no_more last j late =
      let past : leb (j + 1) (m + n) ≡ false = lt-leb (j + 1) (m + n) (omega arith) in
      and_right (leb c.first (j + 1)) (is_up_to c.last (j + 1)) (ap (λ o. is_up_to o (j + 1)) last ∙ past)

-- ---- the spans step by step
-- spans that ended stay as they are when they end again
ended_twice : (x : SpanState) (e f : ℕ) → closed (closed x e) f ≡ closed x e
ended_twice x e f = ap (λ done. record (closed x e) { done = done }) (append-nil (closed x e).done)

ended_either : (b : Bool) (x : SpanState) (e : ℕ) → closed (cond b x (closed x e)) e ≡ closed x e
ended_either true x e = refl
ended_either false x e = ended_twice x e e

module _ (said : Answers) (s : State) (c : ChoiceState) (k m n : ℕ) (numbers : (j : ℕ) → j ≤ k → (after said s j).steps ≡ j) (part : ArePart c k m n) where
  -- whether the next steps are those of the choice
  here : (j : ℕ) (b : Bool) → j ≤ k → is_step c (j + 1) ≡ b → is_step c ((after said s j).steps + 1) ≡ b
  here j b up is = ap (λ i. is_step c (i + 1)) (numbers j up) ∙ is

  next_one : (j : ℕ) (b : Bool) → j ≤ k → is_step c (suc j + 1) ≡ b → is_step c ((after said s j).steps + 1 + 1) ≡ b
  next_one j b up is = let same : (after said s j).steps + 1 ≡ suc j = omega (arith, numbers j up) in ap (λ i. is_step c (i + 1)) same ∙ is

  abbrev by_step : ℕ → Bool → Bool → SpanState
  by_step j now then =
      let b = before_step (after said s j) in
      let spans = part_after c said s j in
      let t = after said s (suc j) in
      cond now (cond then (looked_at b spans t) (closed (looked_at b spans t) t.time)) (cond then (opening_spans t) spans)

  after_step : (j : ℕ) (now then : Bool) → j ≤ k → is_step c (j + 1) ≡ now → is_step c (suc j + 1) ≡ then → part_after c said s (suc j) ≡ by_step j now then
  after_step j now then up now_is then_is = ap₂ (by_step j) (here j now up now_is) (next_one j then up then_is)

  -- before the part
  unseen : (j : ℕ) → j < m → part_after c said s j ≡ no_spans
  unseen zero low = ap (λ b. cond b (opening_spans s) no_spans) (here 0 false (omega arith) (not_yet c k m n part 0 low))
  unseen (suc j) low =
      let made : m + n ≤ k = part.made in
      after_step j false false (omega arith) (not_yet c k m n part j (omega arith)) (not_yet c k m n part (suc j) low) ∙ unseen j (omega arith)

  opened : (j : ℕ) → j ≡ m → part_after c said s j ≡ opening_spans (after said s j)
  opened zero is =
      let some : 0 < n = part.some in
      ap (λ b. cond b (opening_spans s) no_spans) (here 0 true (omega arith) (is_one c k m n part 0 (omega arith) (omega arith)))
  opened (suc j) is =
      let some : 0 < n = part.some in
      let made : m + n ≤ k = part.made in
      after_step j false true (omega arith) (not_yet c k m n part j (omega arith)) (is_one c k m n part (suc j) (omega arith) (omega arith))

  -- in it
  abbrev first : State
  first = after said s m

  abbrev made_by : ℕ → SpanState
  made_by i = spans_after (later said m) first i

  abbrev looked_next : ℕ → SpanState
  looked_next i = looked_at (before_step (after said s (m + i))) (part_after c said s (m + i)) (after said s (suc (m + i)))

  one_more : (i : ℕ) → part_after c said s (m + i) ≡ made_by i → looked_next i ≡ made_by (suc i)
  one_more i is =
      let end : suc (m + i) ≡ m + suc i = omega arith in
      ap (λ spans. looked_at (before_step (after said s (m + i))) spans (after said s (suc (m + i)))) is
      ∙ ap₂ (λ (u t : State). looked_at (before_step u) (made_by i) t) (sym (later_state said s m i))
      (ap (after said s) end ∙ sym (later_state said s m (suc i)))

  inside : (i : ℕ) → i < n → part_after c said s (m + i) ≡ made_by i
  inside zero low = let end : m + 0 ≡ m = omega arith in ap (part_after c said s) end ∙ opened m refl
  inside (suc i) low =
      let made : m + n ≤ k = part.made in
      let end : m + suc i ≡ suc (m + i) = omega arith in
      ap (part_after c said s) end
      ∙ after_step (m + i) true true (omega arith) (is_one c k m n part (m + i) (omega arith) (omega arith)) (is_one c k m n part (suc (m + i)) (omega arith) (omega arith))
      ∙ one_more i (inside i (omega arith))

  -- after its last step
  abbrev ending : ℕ
  ending = (after said s (m + n)).time

  closed_or : (b : Bool) (i : ℕ) → n ≡ suc i → is_step c (suc (m + i) + 1) ≡ b → part_after c said s (m + n) ≡ cond b (made_by n) (closed (made_by n) ending)
  closed_or b i is then_is =
      let made : m + n ≤ k = part.made in
      let end : m + n ≡ suc (m + i) = omega arith in
      let at_end = λ (x : SpanState). cond b x (closed x (after said s (suc (m + i))).time) in
      ap (part_after c said s) end
      ∙ after_step (m + i) true b (omega arith) (is_one c k m n part (m + i) (omega arith) (omega arith)) then_is
      ∙ ap at_end (one_more i (inside i (omega arith)))
      ∙ ap₂ (λ x (u : State). cond b x (closed x u.time)) (ap made_by (sym is)) (ap (after said s) (sym end))

  over : c.last ≡ Some (m + n) → part_after c said s (m + n) ≡ closed (made_by n) ending → (i : ℕ) → m + n + i ≤ k → part_after c said s (m + n + i) ≡ closed (made_by n) ending
  over last is zero up = let end : m + n + 0 ≡ m + n = omega arith in ap (part_after c said s) end ∙ is
  over last is (suc i) up =
      let end : m + n + suc i ≡ suc (m + n + i) = omega arith in
      ap (part_after c said s) end
      ∙ after_step (m + n + i) false false (omega arith) (no_more c k m n part last (m + n + i) (omega arith)) (no_more c k m n part last (suc (m + n + i)) (omega arith))
      ∙ over last is i (omega arith)

  at_last : (i : ℕ) → n ≡ suc i → part_of c said s k ≡ closed (made_by n) ending
  at_last i is = elim part.last [
    | inl last ↦ (
        let made : m + n ≤ k = part.made in
        let end : suc (m + i) ≡ m + n = omega arith in
        let none : is_step c (suc (m + i) + 1) ≡ false = ap (λ j. is_step c (j + 1)) end ∙ no_more c k m n part last (m + n) (omega arith) in
        let rest = k - (m + n) in
        let all : m + n + rest ≡ k = omega arith in
        let then : part_after c said s k ≡ closed (made_by n) ending = ap (part_after c said s) (sym all) ∙ over last (closed_or false i is none) rest (omega arith) in
        ap (λ x. closed x (after said s k).time) then ∙ ended_twice (made_by n) ending (after said s k).time)
    | inr whole ↦ (
        let b = is_step c (suc (m + i) + 1) in
        ap (part_of c said s) (sym whole.0)
        ∙ ap (λ x. closed x ending) (closed_or b i is refl)
        ∙ ended_either b (made_by n) ending)
  ]

  pub of_part : (part_of c said s k).done ≡ part_spans said s m n
  of_part =
      let some : 0 < n = part.some in
      let i = n - 1 in
      let is : n ≡ suc i = omega arith in
      ap (λ (x : SpanState). x.done) (at_last i is)
      ∙ ap (λ (x : SpanState). (closed x ending).done) (same_made (later said m) first n)

pub parts_are : CountLaw → PartLaw
parts_are law said s c k m n start made part = of_part said s c k m n (counted law said s k start made) part
