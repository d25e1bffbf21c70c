-- A picture under way.
use Rattle.std.proofs.Common.{◌≡◌, ℕ, ◌+◌, ◌<◌, true, false, cond, List, [], ◌∷◌, ◌++◌, Result, Ok, Err, refl, sym, ap, ap₂, subst, ◌∙◌, append_assoc, length, take, get_or}
use Rattle.std.specs.Prelude.{OnOk}
use Rattle.std.specs.List.{filter}
use Rattle.std.proofs.lemmas.List.{take_more}
use Rattle.std.proofs.lemmas.List.Elements.{filter-append}
use Rattle.wind_machine.specs.State.{State}
use Rattle.board_changes.specs.Spans.{SpanState, closed}
use Rattle.board_changes.specs.declared.spans.Open.{Open}
use Rattle.board_changes.specs.declared.spans.Span.{Span}
use Rattle.board_trace.specs.Steps.{is_instruction}
use Rattle.board_trace.specs.declared.moment.BeforeStep.{BeforeStep}
use Rattle.trace_picture.specs.Areas.{area_of, areas_of, band_of, with_band}
use Rattle.trace_picture.specs.declared.areas.Area.{Area}
use Rattle.trace_picture.specs.declared.areas.AreaKind.TheVariants.{Bar}
use Rattle.trace_session.specs.Choice.{ChoiceState, is_step}
use Rattle.trace_session.specs.Shown.{Carries, Pictures, shown_areas, shows}
use Rattle.trace_session.specs.Spans.{looked_at, looked_by, looked_in, looked_outside, observed_in, opening_spans}

-- what two facts lead to, if there is a result
pub on_both : {A E : Type 0} (r : Result A E) (P Q R : Type 0) → (P → Q → R) → OnOk r P → OnOk r Q → OnOk r R
on_both (Err e) P Q R leads p q = tt
on_both (Ok x) P Q R leads p q = leads p q

pub on_one : {A E : Type 0} (r : Result A E) (P Q : Type 0) → (P → Q) → OnOk r P → OnOk r Q
on_one (Err e) P Q leads p = tt
on_one (Ok x) P Q leads p = leads p

pub on_ok : {A E : Type 0} (r : Result A E) (P : Type 0) → P → OnOk r P
on_ok (Err e) P p = tt
on_ok (Ok x) P p = p

-- ---- the areas of spans that are shown
areas_append : (xs ys : List Span) → areas_of (xs ++ ys) ≡ areas_of xs ++ areas_of ys
areas_append [] ys = refl
areas_append (x ∷ xs) ys =
    let own = with_band (area_of Bar x) (band_of x) in
    ap (λ rest. own ++ rest) (areas_append xs ys) ∙ sym (append_assoc own (areas_of xs) (areas_of ys))

pub shown_append : (c : ChoiceState) (xs ys : List Span) → shown_areas c (xs ++ ys) ≡ shown_areas c xs ++ shown_areas c ys
shown_append c xs ys = ap (filter (shows c)) (areas_append xs ys) ∙ filter-append (shows c) (areas_of xs) (areas_of ys)

-- spans from those that go on and those that have ended
abbrev spans_by : List Open → List Span → SpanState
spans_by going done = record { going = going; done = done }

abbrev only_going : SpanState → SpanState
only_going spans = spans_by spans.going []

module _ (c : ChoiceState) where
  -- one more of some spans
  pub more_shown : (spans : List Span) (i : ℕ) (s : Span) (first now next : List Area) → i < length spans → s ≡ get_or spans i s → next ≡ now ++ shown_areas c (s ∷ []) → now ≡ first ++ shown_areas c (take i spans)
      → next ≡ first ++ shown_areas c (take (i + 1) spans)
  more_shown spans i s first now next below at next_is now_is =
      next_is
      ∙ ap (λ x. x ++ shown_areas c (s ∷ [])) now_is
      ∙ append_assoc first (shown_areas c (take i spans)) (shown_areas c (s ∷ []))
      ∙ ap (λ x. first ++ x) (sym (shown_append c (take i spans) (s ∷ [])))
      ∙ ap (λ (x : Span). first ++ shown_areas c (take i spans ++ x ∷ [])) at
      ∙ ap (λ xs. first ++ shown_areas c xs) (sym (take_more spans i s below))

  -- ---- the spans that end leave areas
  -- the spans have become these, which went on the same way, and the areas of those that ended were added
  pub areas_kept : (old mid now : SpanState) (before after : List Area) (change : SpanState → SpanState)
      → ((x y : SpanState) → x.going ≡ y.going → (change x).going ≡ (change y).going)
      → ((x : SpanState) → (change x).done ≡ x.done ++ (change (only_going x)).done)
      → mid ≡ change old → now ≡ record mid { done = [] } → after ≡ before ++ shown_areas c mid.done → Carries c old before now after change
  areas_kept old mid now before after change goes ends mid_is now_is after_is spans p =
      let same : old ≡ only_going spans = ap₂ spans_by p.going p.forgotten in
      record {
        going = ap (λ (x : SpanState). x.going) now_is ∙ ap (λ (x : SpanState). x.going) mid_is ∙ goes old spans p.going;
        forgotten = ap (λ (x : SpanState). x.done) now_is;
        areas_are =
            after_is
            ∙ ap (λ (x : SpanState). before ++ shown_areas c x.done) mid_is
            ∙ ap₂ (λ (x : List Area) (y : SpanState). x ++ shown_areas c (change y).done) p.areas_are same
            ∙ sym (shown_append c spans.done (change (only_going spans)).done)
            ∙ ap (shown_areas c) (sym (ends spans));
      }

  -- the spans that end at a moment leave their areas
  pub observed_kept : (t : State) (old mid now : SpanState) (before after : List Area) → mid ≡ observed_in old t → now ≡ record mid { done = [] } → after ≡ before ++ shown_areas c mid.done
      → Carries c old before now after (λ spans. observed_in spans t)
  observed_kept t old mid now before after =
      areas_kept old mid now before after (λ spans. observed_in spans t) (λ x y same. ap (λ going. (observed_in (spans_by going []) t).going) same) (λ x. refl)

  -- the picture begins
  pub opens : (kept : SpanState) (areas : List Area) (s : State) → kept ≡ opening_spans s → areas ≡ [] → Pictures c kept areas (opening_spans s)
  opens kept areas s kept_is none = record { going = ap (λ (x : SpanState). x.going) kept_is; forgotten = ap (λ (x : SpanState). x.done) kept_is; areas_are = none }

  -- ---- by which steps are shown
  module _ (kept now : SpanState) (areas after : List Area) (b : BeforeStep) (t : State) where
    -- an instruction leaves the spans as they are
    pub skipped : is_instruction b t.world.output ≡ true → now ≡ kept → after ≡ areas → Carries c kept areas now after (λ spans. looked_at b spans t)
    skipped one same same_areas spans p =
        subst (λ x. Pictures c now after (cond x spans (observed_in spans t))) (sym one)
        (subst (λ x. Pictures c x after spans) (sym same) (subst (λ x. Pictures c kept x spans) (sym same_areas) p))

    pub looked : is_instruction b t.world.output ≡ false → Carries c kept areas now after (λ spans. observed_in spans t) → Carries c kept areas now after (λ spans. looked_at b spans t)
    looked other carries spans p = subst (λ x. Pictures c now after (cond x spans (observed_in spans t))) (sym other) (carries spans p)

    -- after a step that is shown
    pub goes_on : is_step c (b.step + 1) ≡ true → Carries c kept areas now after (λ spans. looked_at b spans t) → Carries c kept areas now after (λ spans. looked_in c b spans t)
    goes_on next carries spans p =
        subst (λ x. Pictures c now after (cond x (looked_at b spans t) (closed (looked_at b spans t) t.time))) (sym next) (carries spans p)

    pub last_closed : (mid : SpanState) (between : List Area) → is_step c (b.step + 1) ≡ false → Carries c kept areas mid between (λ spans. looked_at b spans t)
        → Carries c mid between now after (λ spans. closed spans t.time) → Carries c kept areas now after (λ spans. looked_in c b spans t)
    last_closed mid between none looks closes spans p =
        subst (λ x. Pictures c now after (cond x (looked_at b spans t) (closed (looked_at b spans t) t.time))) (sym none)
        (closes (looked_at b spans t) (looks spans p))

    pub inside : is_step c b.step ≡ true → Carries c kept areas now after (λ spans. looked_in c b spans t) → Carries c kept areas now after (λ spans. looked_by c b spans t)
    inside here carries spans p = subst (λ x. Pictures c now after (cond x (looked_in c b spans t) (looked_outside c b spans t))) (sym here) (carries spans p)

    -- after another step
    pub begins : is_step c b.step ≡ false → is_step c (b.step + 1) ≡ true → Pictures c now after (opening_spans t) → Carries c kept areas now after (λ spans. looked_by c b spans t)
    begins out next opens spans p =
        subst (λ x. Pictures c now after (cond x (looked_in c b spans t) (looked_outside c b spans t))) (sym out)
        (subst (λ x. Pictures c now after (cond x (opening_spans t) spans)) (sym next) opens)

    pub passed : is_step c b.step ≡ false → is_step c (b.step + 1) ≡ false → now ≡ kept → after ≡ areas → Carries c kept areas now after (λ spans. looked_by c b spans t)
    passed out none same same_areas spans p =
        subst (λ x. Pictures c now after (cond x (looked_in c b spans t) (looked_outside c b spans t))) (sym out)
        (subst (λ x. Pictures c now after (cond x (opening_spans t) spans)) (sym none)
        (subst (λ x. Pictures c x after spans) (sym same) (subst (λ x. Pictures c kept x spans) (sym same_areas) p)))
