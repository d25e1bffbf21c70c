-- A run that is told as objects, under way.
use Rattle.std.proofs.Common.{◌≡◌, ◌≢◌, ℕ, zero, suc, ◌+◌, ◌<◌, length, take, get_or, Bool, true, false, if◌then◌else◌, List, [], ◌∷◌, ◌++◌, Option, None, inl, inr, refl, sym, ap, ap₂, subst, ◌∙◌, append_assoc, arith, add-one}
use Rattle.std.specs.List.{flat_map}
use Rattle.std.proofs.lemmas.List.{append-nil, take_more}
use Rattle.wind_outside.specs.Appending.{Appended, AppendedPrefix}
use Rattle.wind_outside.specs.Requests.{Request}
use Rattle.kernel_world.specs.declared.reply.Reply.{Reply}
use Rattle.wind_machine.specs.LiveLoadingSaid.{FileSaid}
use Rattle.wind_machine.specs.State.{State}
use Rattle.wind_machine.specs.Run.{Answers, after}
use Rattle.wind_session.proofs.AppendingLemmas.{appended_none}
use Rattle.wind_session.proofs.Saying.{Agree, same_after, state_after, state_before}
use Rattle.wind_session.specs.Modules.{Shelf}
use Rattle.wind_session.specs.Telling.{GoesOn, IsTold, IsToldInPart, Told}
use Rattle.wind_session.specs.declared.run.RunEnd.{RunEnd}
use Rattle.wind_session.specs.declared.run.RunEnd.TheVariants as ends
use Rattle.board_changes.specs.Spans.{SpanState, closed}
use Rattle.board_trace.specs.Before.{before_step}
use Rattle.board_trace.specs.Runs.{step_lines}
use Rattle.board_trace.specs.Steps.{happenings, is_instruction}
use Rattle.board_trace.specs.declared.happening.Happening.{Happening}
use Rattle.board_trace.specs.declared.moment.BeforeStep.{BeforeStep}
use Rattle.board_trace.specs.declared.who.Subject.{Subject}
use Rattle.serde_json.specs.Data.{Data}
use Rattle.trace_text.specs.Forms.{Gained}
use Rattle.trace_json.specs.Chrome.{AreMembers, IsLastMember, TraceObject, list_opening}
use Rattle.trace_json.proofs.Gaining.{gained_both, gained_none}
use Rattle.trace_session.specs.Choice.{ChoiceState, is_step}
use Rattle.trace_session.specs.Chrome.{BeginsList, ChartState, ChartsPart, ChartsSteps, HoldsFirst, HoldsObjects, IsList, TellsFirst, TellsObjects, chart_after, chart_by, chart_on, charted, chosen_wait, flows_after, flows_in, first_objects, going_on, last_object, left_objects, level_after, level_by, level_objects, line_objects, number_in, numbered, objects_after, span_objects, step_flows, step_number, step_objects, wait_objects}
use Rattle.trace_session.specs.Counters.{counts_in, step_counters}
use Rattle.trace_session.specs.Spans.{looked_by, observed_in, opening_spans}
use Rattle.trace_session.specs.Traced.{IsPutOf}
use Rattle.trace_session.proofs.Puts.{prefix_more, prefix_whole, text_lost, text_put}
use Rattle.trace_session.proofs.Telling.{lost_if, same_part, tells_unless}

-- ---- the same is said at the first steps
shorter : (a b : Answers) (k : ℕ) → Agree a b (suc k) → Agree a b k
shorter a b k same j below = same j (omega (arith, below))

same_level : (c : ChoiceState) (a b : Answers) (s : State) (k : ℕ) → Agree a b k → level_after c a s k ≡ level_after c b s k
same_level c a b s zero same = refl
same_level c a b s (suc k) same =
    ap (level_by c (level_after c a s k)) (same_after a b s (suc k) same)
    ∙ ap (λ x. level_by c x (after b s (suc k))) (same_level c a b s k (shorter a b k same))

same_flows : (c : ChoiceState) (a b : Answers) (s : State) (k : ℕ) → Agree a b k → flows_after c a s k ≡ flows_after c b s k
same_flows c a b s zero same = refl
same_flows c a b s (suc k) same =
    ap₂ (λ (u v : State). step_number c (before_step u) (happenings (a k) u v) (flows_after c a s k)) (same_after a b s k (shorter a b k same)) (same_after a b s (suc k) same)
    ∙ ap (λ said. step_number c (before_step (after b s k)) (happenings said (after b s k) (after b s (suc k))) (flows_after c a s k)) (same k (omega arith))
    ∙ ap (step_number c (before_step (after b s k)) (happenings (b k) (after b s k) (after b s (suc k)))) (same_flows c a b s k (shorter a b k same))

-- all that goes on
chart_of : (x y : ChartState) → x.spans ≡ y.spans → x.level ≡ y.level → x.flows ≡ y.flows → x ≡ y
chart_of x y spans level flows =
    ap (λ z. charted z x.level x.flows) spans
    ∙ ap (λ z. charted y.spans z x.flows) level
    ∙ ap (charted y.spans y.level) flows

same_chart : (c : ChoiceState) (a b : Answers) (s : State) (k : ℕ) → Agree a b k → chart_after c a s k ≡ chart_after c b s k
same_chart c a b s k same = chart_of (chart_after c a s k) (chart_after c b s k) (same_part c a b s k same) (same_level c a b s k same) (same_flows c a b s k same)

same_objects : (c : ChoiceState) (a b : Answers) (s : State) (k : ℕ) → Agree a b k → objects_after c a s k ≡ objects_after c b s k
same_objects c a b s zero same = refl
same_objects c a b s (suc k) same =
    ap₂ (λ (u v : State). objects_after c a s k ++ step_objects c (a k) (chart_after c a s k) u v) (same_after a b s k (shorter a b k same)) (same_after a b s (suc k) same)
    ∙ ap (λ said. objects_after c a s k ++ step_objects c said (chart_after c a s k) (after b s k) (after b s (suc k))) (same k (omega arith))
    ∙ ap (λ x. objects_after c a s k ++ step_objects c (b k) x (after b s k) (after b s (suc k))) (same_chart c a b s k (shorter a b k same))
    ∙ ap (λ ds. ds ++ step_objects c (b k) (chart_after c b s k) (after b s k) (after b s (suc k))) (same_objects c a b s k (shorter a b k same))

-- ---- spans that go on
-- what ended before changes nothing of what goes on
forgets : (x y z : Bool) (spans : SpanState) (t : State)
    → going_on (if x then (if y then (if z then going_on spans else observed_in (going_on spans) t) else closed (if z then going_on spans else observed_in (going_on spans) t) t.time) else (if y then opening_spans t else going_on spans))
    ≡ going_on (if x then (if y then (if z then spans else observed_in spans t) else closed (if z then spans else observed_in spans t) t.time) else (if y then opening_spans t else spans))
forgets true true true spans t = refl
forgets true true false spans t = refl
forgets true false true spans t = refl
forgets true false false spans t = refl
forgets false true z spans t = refl
forgets false false z spans t = refl

looked_forgets : (c : ChoiceState) (b : BeforeStep) (spans : SpanState) (t : State) → going_on (looked_by c b (going_on spans) t) ≡ going_on (looked_by c b spans t)
looked_forgets c b spans t = forgets (is_step c b.step) (is_step c (b.step + 1)) (is_instruction b t.world.output) spans t

chart_forgets : (c : ChoiceState) (said : FileSaid) (x : ChartState) (s t : State) → chart_on (chart_by c said (chart_on x) s t) ≡ chart_on (chart_by c said x s t)
chart_forgets c said x s t = ap (λ spans. charted spans (level_by c x.level t) (step_number c (before_step s) (happenings said s t) x.flows)) (looked_forgets c (before_step s) x.spans t)

-- ---- a text that begins with objects
-- it goes on after what was given
gained_after : (IsPiece : List ℕ → Type 0) (given old new : List ℕ) → Gained IsPiece old new → Gained IsPiece (given ++ old) (given ++ new)
gained_after IsPiece given old new gained = record {
  piece = gained.piece;
  text_is = ap (λ bytes. given ++ bytes) gained.text_is ∙ sym (append_assoc given old gained.piece);
  is_piece = gained.is_piece;
}

begins_on : (xs ys : List TraceObject) (given old new : List ℕ) → BeginsList xs (given ++ old) → Gained (AreMembers ys) old new → BeginsList (xs ++ ys) (given ++ new)
begins_on xs ys given old new begins gained = gained_both xs ys list_opening (given ++ old) (given ++ new) begins (gained_after (AreMembers ys) given old new gained)

-- the spans that went on, and the end
pub list_ended : (objects spans : List TraceObject) (last : Data) (given old mid new : List ℕ) → BeginsList objects (given ++ old) → Gained (AreMembers spans) old mid → Gained (IsLastMember last) mid new → IsList (objects ++ spans) last (given ++ new)
list_ended objects spans last given old mid new begins more ended = record {
  before = given ++ mid;
  is_text = begins_on objects spans given old mid begins more;
  gained = gained_after (IsLastMember last) given mid new ended;
}

-- ---- puts
module _ (first old new : Option (List ℕ)) (text : List ℕ) (objects : List TraceObject) (holds : HoldsObjects first old text objects) where
  -- a put of the text was made
  pub objects_put : Appended old new text → HoldsObjects first new [] objects
  objects_put put = record {
    given = holds.given ++ text;
    gained = text_put first old new holds.given text holds.gained put;
    begins = subst (BeginsList objects) (sym (append-nil (holds.given ++ text))) holds.begins;
  }

  -- or failed
  pub objects_lost : AppendedPrefix old new text → HoldsFirst first new objects
  objects_lost part = record {
    earlier = objects;
    later = [];
    objects_are = sym (append-nil objects);
    text = holds.given ++ text;
    begins = holds.begins;
    gained = text_lost first old new holds.given text holds.gained part;
  }

pub objects_held : (first now : Option (List ℕ)) (text : List ℕ) (objects : List TraceObject) → HoldsObjects first now text objects → HoldsFirst first now objects
objects_held first now text objects holds = record {
  earlier = objects;
  later = [];
  objects_are = sym (append-nil objects);
  text = holds.given ++ text;
  begins = holds.begins;
  gained = prefix_more first now holds.given text (prefix_whole first now holds.given holds.gained);
}

-- nothing was put yet
pub objects_begun : (first : Option (List ℕ)) (text : List ℕ) (objects : List TraceObject) → BeginsList objects text → HoldsObjects first first text objects
objects_begun first text objects begins = record { given = []; gained = appended_none first; begins = begins }

-- nothing was put
pub none_charted : (first now : Option (List ℕ)) → first ≡ now → (objects : List TraceObject) → HoldsFirst first now objects
none_charted first now same objects = record {
  earlier = [];
  later = objects;
  objects_are = refl;
  text = list_opening;
  begins = gained_none list_opening;
  gained = (0, subst (λ bytes. Appended first bytes []) same (appended_none first));
}

-- ---- one step more
module _ (said next : Answers) (s u t : State) (reply : Option Reply) (i : ℕ) (on : GoesOn said next s u t reply i) (c : ChoiceState) where
  objects_now : objects_after c said s i ++ step_objects c (next i) (chart_after c said s i) u t ≡ objects_after c next s (i + 1)
  objects_now =
      ap₂ (λ (a b : State). objects_after c said s i ++ step_objects c (next i) (chart_after c said s i) a b) (state_before said next s u t reply i on) (state_after said next s u t reply i on)
      ∙ ap₂ (λ ds x. ds ++ step_objects c (next i) x (after next s i) (after next s (suc i))) (same_objects c said next s i on.same) (same_chart c said next s i on.same)
      ∙ ap (objects_after c next s) (sym (add-one i))

  chart_now : chart_by c (next i) (chart_after c said s i) u t ≡ chart_after c next s (i + 1)
  chart_now =
      ap₂ (λ (a b : State). chart_by c (next i) (chart_after c said s i) a b) (state_before said next s u t reply i on) (state_after said next s u t reply i on)
      ∙ ap (λ x. chart_by c (next i) x (after next s i) (after next s (suc i))) (same_chart c said next s i on.same)
      ∙ ap (chart_after c next s) (sym (add-one i))

  -- a step's objects come from what goes on
  abbrev objects_by : ChartState → List TraceObject
  objects_by x =
      flat_map (line_objects c) (step_lines (next i) u t)
      ++ (step_flows c (before_step u) t.time (happenings (next i) u t) x.flows
      ++ ((flat_map (span_objects c) (looked_by c (before_step u) x.spans t).done ++ level_objects c x.level (level_by c x.level t) t.time)
      ++ step_counters c (before_step u) (counts_in u) t))

  from_going : (old : ChartState) → chart_on old ≡ chart_on (chart_after c said s i) → step_objects c (next i) old u t ≡ step_objects c (next i) (chart_after c said s i) u t
  from_going old same = ap objects_by same

  going_now : (old new : ChartState) → chart_on old ≡ chart_on (chart_after c said s i) → new ≡ chart_by c (next i) (chart_on old) u t → chart_on new ≡ chart_on (chart_after c next s (i + 1))
  going_now old new same is =
      ap chart_on is
      ∙ ap (λ x. chart_on (chart_by c (next i) x u t)) same
      ∙ chart_forgets c (next i) (chart_after c said s i) u t
      ∙ ap chart_on chart_now

  pub charted_on : (first now : Option (List ℕ)) (old new : ChartState) (text later : List ℕ) → ChartsSteps c old first now text said s i
      → Gained (AreMembers (step_objects c (next i) old u t)) text later → new ≡ chart_by c (next i) (chart_on old) u t → ChartsSteps c new first now later next s (i + 1)
  charted_on first now old new text later charts gained is =
      let P : List TraceObject → Type 0 = λ ds. Gained (AreMembers ds) text later in
      let holds = charts.holds in
      record {
        holds = record {
          given = holds.given;
          gained = holds.gained;
          begins = subst (λ ds. BeginsList ds (holds.given ++ later)) objects_now
              (begins_on (objects_after c said s i) (step_objects c (next i) (chart_after c said s i) u t) holds.given text later holds.begins (subst P (from_going old charts.going) gained));
        };
        going = going_now old new charts.going is;
      }

-- whatever is said of the files later, a prefix of the objects was put
pub charted_part : (c : ChoiceState) (x : ChartState) (first now : Option (List ℕ)) (text : List ℕ) (said next : Answers) (s : State) (i : ℕ) → ((j : ℕ) → j < i → said j ≡ next j) → ChartsSteps c x first now text said s i → ChartsPart c first now next s i
charted_part c x first now text said next s i same charts = subst (HoldsFirst first now) (same_objects c said next s i same) (objects_held first now text (objects_after c said s i) charts.holds)

-- instructions that were made at once have no objects
pub charted_burst : (c : ChoiceState) (old new : ChartState) (first now : Option (List ℕ)) (text later : List ℕ) (said : Answers) (s : State) (i k : ℕ) → new ≡ old → later ≡ text
    → objects_after c said s (i + k) ≡ objects_after c said s i → chart_after c said s (i + k) ≡ chart_after c said s i → ChartsSteps c old first now text said s i → ChartsSteps c new first now later said s (i + k)
charted_burst c old new first now text later said s i k chart_is text_is objects_are stays charts =
    let P : List ℕ → List TraceObject → Type 0 = λ bytes ds. HoldsObjects first now bytes ds in
    record {
      holds = subst (λ ds. P later ds) (sym objects_are) (subst (λ bytes. P bytes (objects_after c said s i)) (sym text_is) charts.holds);
      going = ap chart_on chart_is ∙ charts.going ∙ ap chart_on (sym stays);
    }

-- before the first step
pub charted_none : (c mine : ChoiceState) → mine ≡ c → (x : ChartState) (first : Option (List ℕ)) (text : List ℕ) (said : Answers) (s : State) → x ≡ chart_after c said s 0 → BeginsList (first_objects c s) text
    → ChartsSteps mine x first first text said s 0
charted_none c mine mine_is x first text said s same begins =
    subst (λ y. ChartsSteps y x first first text said s 0) (sym mine_is)
    (record { holds = objects_begun first text (first_objects c s) begins; going = ap chart_on same })

-- ---- how the run ended
module _ (c mine later : ChoiceState) (same : mine ≡ c) (shelf : Shelf) (s board : State) (n : ℕ) (old mid : Option (List Request)) (first now : Option (List ℕ)) where
  pub charted_of : (x : ChartState) (text : List ℕ) (end : RunEnd) → Told (IsTold (ChartsSteps later x first now text) (ChartsPart mine first now) end s) shelf s n board old mid
      → Told (IsTold (ChartsSteps later x first now text) (ChartsPart c first now) end s) shelf s n board old mid
  charted_of x text end = subst (λ mine. Told (IsTold (ChartsSteps later x first now text) (ChartsPart mine first now) end s) shelf s n board old mid) same

  pub charted_first : Told (IsToldInPart (ChartsPart mine first now) s) shelf s n board old mid → Told (TellsFirst c s first now) shelf s n board old mid
  charted_first = subst (λ x. Told (TellsFirst x s first now) shelf s n board old mid) same

-- by the choice of the run
pub end_by : (c later : ChoiceState) → later ≡ c → (first now new : Option (List ℕ)) (text : List ℕ) (x : ChartState) (board : State) (result end : RunEnd)
    → ((objects : List TraceObject) → HoldsObjects first now text objects → (bytes : List ℕ) × IsList (objects ++ left_objects later x board.time) (last_object end board) bytes × IsPutOf bytes result end first new)
    → (objects : List TraceObject) → HoldsObjects first now text objects → (bytes : List ℕ) × IsList (objects ++ left_objects c x board.time) (last_object end board) bytes × IsPutOf bytes result end first new
end_by c later same first now new text x board result end puts objects holds =
    subst (λ y. (bytes : List ℕ) × IsList (objects ++ left_objects y x board.time) (last_object end board) bytes × IsPutOf bytes result end first new) same (puts objects holds)

module _ (c later : ChoiceState) (stays : later ≡ c) (shelf : Shelf) (s board : State) (n : ℕ) (old mid : Option (List Request)) (first now : Option (List ℕ)) (x : ChartState) (text : List ℕ) (end : RunEnd)
    (ran : Told (IsTold (ChartsSteps later x first now text) (ChartsPart c first now) end s) shelf s n board old mid) where
  -- a put failed before it
  pub chart_lost : end ≡ ends.WriteFault → Told (TellsObjects c end s first now) shelf s n board old mid
  chart_lost e = record {
    said = ran.said;
    k = ran.k;
    end = ran.end;
    made = ran.made;
    tells = inr (e, lost_if (ChartsSteps later x first now text) (ChartsPart c first now) ran.said s ran.k ran.end (sym ran.tells.0 ∙ e) ran.tells.1);
  }

  module _ (other : end ≢ ends.WriteFault) where
    steps_charted : ChartsSteps c x first now text ran.said s ran.k
    steps_charted =
        subst (λ y. ChartsSteps y x first now text ran.said s ran.k) stays
        (tells_unless (ChartsSteps later x first now text) (ChartsPart c first now) ran.said s ran.k ran.end (λ e. other (ran.tells.0 ∙ e)) ran.tells.1)

    -- it was put, or that put failed
    pub chart_told : (new : Option (List ℕ)) (result : RunEnd)
        → ((objects : List TraceObject) → HoldsObjects first now text objects → (bytes : List ℕ) × IsList (objects ++ left_objects c x board.time) (last_object end board) bytes × IsPutOf bytes result end first new)
        → Told (TellsObjects c result s first new) shelf s n board old mid
    chart_told new result puts =
        let objects = objects_after c ran.said s ran.k in
        let P : RunEnd → State → ChartState → Type 0 = λ e v y. (bytes : List ℕ) × IsList (objects ++ (flat_map (span_objects c) (closed y.spans v.time).done ++ level_objects c y.level None v.time)) (last_object e v) bytes × IsPutOf bytes result e first new in
        let put = puts objects steps_charted.holds in
        record {
          said = ran.said;
          k = ran.k;
          end = ran.end;
          made = ran.made;
          tells = inl (subst (P ran.end (after ran.said s ran.k)) steps_charted.going (subst (λ v. P ran.end v (chart_on x)) ran.made.state (subst (λ e. P e board (chart_on x)) ran.tells.0 put)));
        }

    -- memory ran out for it
    pub chart_given_up : (new : Option (List ℕ)) → new ≡ now → Told (TellsFirst c s first new) shelf s n board old mid
    chart_given_up new same = record {
      said = ran.said;
      k = ran.k;
      end = ran.end;
      made = ran.made;
      tells = (ran.k, omega arith, subst (λ bytes. HoldsFirst first bytes (objects_after c ran.said s ran.k)) (sym same) (objects_held first now text (objects_after c ran.said s ran.k) steps_charted.holds));
    }

-- ---- the flows of a step
-- one happening more
flows_more : (c : ChoiceState) (giver : Subject) (b : BeforeStep) (to : ℕ) (hs : List Happening) (h : Happening) (n : ℕ)
    → flows_in c giver b to hs n ++ wait_objects giver (chosen_wait c b.step h) (number_in c b hs n) b.time to ≡ flows_in c giver b to (hs ++ h ∷ []) n
flows_more c giver b to [] h n = sym (append-nil (wait_objects giver (chosen_wait c b.step h) n b.time to))
flows_more c giver b to (g ∷ gs) h n =
    append_assoc (wait_objects giver (chosen_wait c b.step g) n b.time to) (flows_in c giver b to gs (numbered (chosen_wait c b.step g) n)) (wait_objects giver (chosen_wait c b.step h) (number_in c b gs (numbered (chosen_wait c b.step g) n)) b.time to)
    ∙ ap (λ ds. wait_objects giver (chosen_wait c b.step g) n b.time to ++ ds) (flows_more c giver b to gs h (numbered (chosen_wait c b.step g) n))

number_more : (c : ChoiceState) (b : BeforeStep) (hs : List Happening) (h : Happening) (n : ℕ) → numbered (chosen_wait c b.step h) (number_in c b hs n) ≡ number_in c b (hs ++ h ∷ []) n
number_more c b [] h n = refl
number_more c b (g ∷ gs) h n = number_more c b gs h (numbered (chosen_wait c b.step g) n)

module _ (c : ChoiceState) (b : BeforeStep) (hs : List Happening) (i : ℕ) (h : Happening) (below : i < length hs) (at : h ≡ get_or hs i h) where
  one_longer : take i hs ++ h ∷ [] ≡ take (i + 1) hs
  one_longer = ap (λ g. take i hs ++ g ∷ []) at ∙ sym (take_more hs i h below)

  pub numbers_on : (first last next : ℕ) → last ≡ number_in c b (take i hs) first → next ≡ numbered (chosen_wait c b.step h) last → next ≡ number_in c b (take (i + 1) hs) first
  numbers_on first last next last_is next_is =
      next_is ∙ ap (numbered (chosen_wait c b.step h)) last_is ∙ number_more c b (take i hs) h first ∙ ap (λ gs. number_in c b gs first) one_longer

  pub flows_on : (giver : Subject) (to first last : ℕ) (old mid new : List ℕ) → last ≡ number_in c b (take i hs) first → Gained (AreMembers (flows_in c giver b to (take i hs) first)) old mid
      → Gained (AreMembers (wait_objects giver (chosen_wait c b.step h) last b.time to)) mid new → Gained (AreMembers (flows_in c giver b to (take (i + 1) hs) first)) old new
  flows_on giver to first last old mid new last_is gained more =
      let P : ℕ → Type 0 = λ n. Gained (AreMembers (wait_objects giver (chosen_wait c b.step h) n b.time to)) mid new in
      let Q : List TraceObject → Type 0 = λ ds. Gained (AreMembers ds) old new in
      subst Q (flows_more c giver b to (take i hs) h first ∙ ap (λ gs. flows_in c giver b to gs first) one_longer)
      (gained_both (flows_in c giver b to (take i hs) first) (wait_objects giver (chosen_wait c b.step h) (number_in c b (take i hs) first) b.time to) old mid new gained (subst P last_is more))
