-- What is counted of a run under way.
use Rattle.std.proofs.Common.{◌≡◌, ◌≢◌, ◌⊎◌, ℕ, zero, suc, ◌+◌, ◌<◌, true, List, [], ◌∷◌, ◌++◌, map, take, get_or, length, Option, Some, Result, Ok, Err, refl, sym, ap, ap₂, subst, ◌∙◌, arith, le-leb}
use Rattle.std.specs.Prelude.{◌&&◌, if◌then◌else◌, IfOk, OnOk}
use Rattle.std.proofs.lemmas.List.{map-append, take_more}
use Rattle.generated_session.specs.Puts.{SinkLog}
use Rattle.wind_outside.specs.Requests.{Request}
use Rattle.kernel_world.specs.declared.actor.Actor.{Actor}
use Rattle.kernel_world.specs.declared.reply.Reply.{Reply}
use Rattle.wind_machine.specs.State.{State}
use Rattle.wind_machine.specs.Run.{Answers, after}
use Rattle.wind_machine.specs.Silent.{SilentLaw, SilentSteps, last_actor}
use Rattle.wind_session.specs.Modules.{Shelf}
use Rattle.wind_session.specs.Telling.{GoesOn, IsTold, Told}
use Rattle.wind_session.specs.declared.run.RunEnd.{RunEnd}
use Rattle.wind_session.specs.declared.run.RunEnd.TheVariants as ends
use Rattle.board_changes.specs.declared.view.TaskView.{TaskView}
use Rattle.board_trace.specs.Runs.{Line, lines_of, step_lines, with_line, with_lines}
use Rattle.board_trace.specs.Snapshots.{snapshot_of}
use Rattle.board_trace.specs.Steps.{happenings}
use Rattle.board_trace.specs.Subjects.{name_of, subject_actor, subject_name}
use Rattle.board_trace.specs.Views.{SnapshotState}
use Rattle.board_trace.specs.declared.happening.Happening.{Happening}
use Rattle.board_trace.specs.declared.happening.Happening.TheVariants as told
use Rattle.board_trace.specs.declared.moment.BeforeStep.{BeforeStep}
use Rattle.trace_state.specs.Board.{IsTextOf}
use Rattle.trace_summary.specs.Data.{summary_data}
use Rattle.trace_summary.specs.Keeping.{KeepsTimes}
use Rattle.trace_summary.specs.Summaries.{SummaryState, TallyState, summary_of, tally_of}
use Rattle.trace_summary.specs.Times.{SpanLists}
use Rattle.trace_summary.specs.declared.times.LongestTimes.{LongestTimes}
use Rattle.trace_session.specs.Bursts.{SilentLinesLaw, instructions_line, with_instructions}
use Rattle.trace_session.specs.Choice.{chosen_lines, everything, is_step}
use Rattle.trace_session.specs.Steps.{line_of}
use Rattle.trace_session.specs.Summing.{CountsLines, IsSummedUp, TellsSummary, TellsTable, HasSummary}
use Rattle.trace_session.specs.Traced.{IsPutOf}
use Rattle.trace_session.specs.Watches.{KeepsWatch}
use Rattle.trace_session.specs.Watching.{WatchState, lists_at, watched_after}
use Rattle.trace_session.specs.declared.traced.Product.{Product}
use Rattle.trace_session.specs.declared.watch.Watch.{Watch}
use Rattle.trace_session.proofs.Lines.{all_in, all_lines}
use Rattle.trace_session.proofs.Telling.{lines_now, lost_if, tells_unless}
use Rattle.trace_session.proofs.Watched.{watched_on}

-- ---- lines of a step
with_end : (ls : List Line) (l : Line) (made : List Line) → with_line l (with_lines ls made) ≡ with_lines (ls ++ l ∷ []) made
with_end [] l made = refl
with_end (g ∷ gs) l made = with_end gs l (with_line g made)

-- one happening more
pub one_more : (b : BeforeStep) (before after : SnapshotState) (hs : List Happening) (i : ℕ) (h : Happening) (name : List ℕ) (made : List Line) → i < length hs → h ≡ get_or hs i h → name ≡ subject_name before after h
    → with_line (record { time = b.time; step = b.step; name = name; what = h }) (with_lines (map (line_of b before after) (take i hs)) made) ≡ with_lines (map (line_of b before after) (take (i + 1) hs)) made
one_more b before after hs i h name made below at name_is =
    let line = line_of b before after in
    let rest = with_lines (map line (take i hs)) made in
    ap (λ n. with_line (record { time = b.time; step = b.step; name = n; what = h }) rest) name_is
    ∙ with_end (map line (take i hs)) (line h) made
    ∙ ap (λ ls. with_lines ls made) (sym (map-append line (take i hs) (h ∷ [])))
    ∙ ap (λ g. with_lines (map line (take i hs ++ g ∷ [])) made) at
    ∙ ap (λ gs. with_lines (map line gs) made) (sym (take_more hs i h below))

-- ---- lines of a run
module _ (said next : Answers) (s u t : State) (reply : Option Reply) (i : ℕ) (on : GoesOn said next s u t reply i) where
  pub all_now : with_lines (step_lines (next i) u t) (lines_of said s i) ≡ lines_of next s (i + 1)
  all_now =
      ap₂ with_lines (sym (all_in u t (happenings (next i) u t))) (sym (all_lines said s i))
      ∙ lines_now said next s u t reply i on everything
      ∙ all_lines next s (i + 1)

-- everything is chosen
each_step : (n j : ℕ) → is_step everything (n + j + 1) ≡ is_step everything (n + 1)
each_step n j = ap (λ b. b && true) (le-leb 1 (n + j + 1) (omega arith) ∙ sym (le-leb 1 (n + 1) (omega arith)))

some_told : (k : ℕ) (u : State) (who : Actor) (made : List Line) → 0 < k → with_instructions everything k u who made ≡ with_line (instructions_line u who k) made
some_told zero u who made some = absurd (omega (arith, some))
some_told (suc k) u who made some = ap (λ b. if (b && true) && (true && true) then with_line (instructions_line u who (suc k)) made else made) (le-leb 1 (u.steps + 1) (omega arith))

-- the lines after one or more instructions that were made at once
pub all_burst : SilentLinesLaw → (said : Answers) (s u t : State) (who : Actor) (i k : ℕ) → 0 < k → u ≡ after said s i → last_actor u.world ≡ Some who → SilentSteps k u t
    → lines_of said s (i + k) ≡ with_line (instructions_line u who k) (lines_of said s i)
all_burst law said s u t who i k some here last steps =
    sym (all_lines said s (i + k))
    ∙ law everything said s u t who i k here last steps (λ j below. each_step u.steps j)
    ∙ some_told k u who (chosen_lines everything said s i) some
    ∙ ap (with_line (instructions_line u who k)) (all_lines said s i)

abbrev line_with : ℕ → ℕ → SnapshotState → Actor → ℕ → Line
line_with time step views who k = record { time = time; step = step; name = name_of views (subject_actor who); what = told.Instructions who k }

-- they were counted
pub counted_burst : SilentLinesLaw → (k : ℕ) (u t : State) (who : Actor) (time : ℕ) (before : SnapshotState) (old new : TallyState) → 0 < k → last_actor u.world ≡ Some who → SilentSteps k u t → time ≡ u.time → before ≡ snapshot_of u.world
    → ((views : List TaskView) (made : List Line) (step : ℕ) → old ≡ tally_of views made → new ≡ tally_of views (with_line (line_with time step before who k) made))
    → (views : List TaskView) (said : Answers) (s : State) (i : ℕ) → u ≡ after said s i → old ≡ tally_of views (lines_of said s i) → new ≡ tally_of views (lines_of said s (i + k))
counted_burst law k u t who time before old new some last steps time_is before_is adds views said s i here is =
    adds views (lines_of said s i) (u.steps + 1) is
    ∙ ap₂ (λ a v. tally_of views (with_line (line_with a (u.steps + 1) v who k) (lines_of said s i))) time_is before_is
    ∙ ap (tally_of views) (sym (all_burst law said s u t who i k some here last steps))

pub counts_on : {E : Type 0} → SilentLaw → (r : Result ℕ E) (u t : State) (old new : TallyState) (watch later : Watch)
    → IfOk r (λ k. (views : List TaskView) (said : Answers) (s : State) (i : ℕ) → u ≡ after said s i → old ≡ tally_of views (lines_of said s i) → new ≡ tally_of views (lines_of said s (i + k)))
    → IfOk r (λ k. SilentSteps k u t) → OnOk r (later ≡ watch)
    → IfOk r (λ k. (first now : SinkLog) (said : Answers) (s : State) (i : ℕ) → u ≡ after said s i → CountsLines old watch first now said s i → CountsLines new later first now said s (i + k))
counts_on law (Err e) u t old new watch later adds steps same = tt
counts_on law (Ok k) u t old new watch later adds steps same = λ first now said s i here holds. (
  holds.0,
  adds (snapshot_of s.world).tasks said s i here holds.1,
  subst (λ (w : Watch). KeepsWatch w (watched_after said s (i + k))) (sym same)
      (subst (KeepsWatch watch) (sym (watched_on law said s u i here k t steps)) holds.2),
)

-- ---- the end of a run
module _ (shelf : Shelf) (s t : State) (n : ℕ) (old new : Option (List Request)) (tally : TallyState) (watch : Watch) (first now : SinkLog) (end : RunEnd)
    (ran : Told (IsTold (CountsLines tally watch first now) (λ said u k. ⊥) end s) shelf s n t old new) where
  none_lost : ran.end ≢ ends.WriteFault
  none_lost e = lost_if (CountsLines tally watch first now) (λ said u k. ⊥) ran.said s ran.k ran.end e ran.tells.1

  counted : CountsLines tally watch first now ran.said s ran.k
  counted = tells_unless (CountsLines tally watch first now) (λ said u k. ⊥) ran.said s ran.k ran.end none_lost ran.tells.1

  pub not_lost : end ≢ ends.WriteFault
  not_lost e = none_lost (sym ran.tells.0 ∙ e)

  pub none_put : now ≡ first
  none_put = counted.0

  -- and its figures
  pub summed_up : (summary : SummaryState) (times : LongestTimes) (time steps : ℕ) → time ≡ t.time → steps ≡ t.steps
      → ((w : WatchState) → KeepsWatch watch w → KeepsTimes times (lists_at w time))
      → ((views : List TaskView) (lines : List Line) (spans : SpanLists) → tally ≡ tally_of views lines → KeepsTimes times spans → summary ≡ summary_of views lines spans time steps)
      → Told (IsSummedUp end summary s) shelf s n t old new
  summed_up summary times time steps time_is steps_are closes sums =
      let views = (snapshot_of s.world).tasks in
      let lines = lines_of ran.said s ran.k in
      let made = watched_after ran.said s ran.k in
      record {
        said = ran.said;
        k = ran.k;
        end = ran.end;
        made = ran.made;
        tells = (
          ran.tells.0,
          sums views lines (lists_at made time) counted.1 (closes made counted.2)
              ∙ ap₂ (λ a b. summary_of views lines (lists_at made a) a b) time_is steps_are
              ∙ ap (λ (v : State). summary_of views lines (lists_at made v.time) v.time v.steps) ran.made.state,
        );
      }

module _ (shelf : Shelf) (s t : State) (n : ℕ) (old new : Option (List Request)) (summary : SummaryState) (end result : RunEnd) (ran : Told (IsSummedUp end summary s) shelf s n t old new) where
  -- its figures were put as JSON, or that put failed
  pub summary_told : (text : List ℕ) (first now last : Option (List ℕ)) → now ≡ first → IsTextOf text (summary_data summary) → IsPutOf text result end now last → Told (TellsSummary result s first last) shelf s n t old new
  summary_told text first now last same is put = record {
    said = ran.said;
    k = ran.k;
    end = ran.end;
    made = ran.made;
    tells = (
      text,
      subst (λ (x : SummaryState). IsTextOf text (summary_data x)) ran.tells.1 is,
      subst (λ e. IsPutOf text result e first last) ran.tells.0 (subst (λ before. IsPutOf text result end before last) same put),
    );
  }

  -- they are left
  pub table_told : (product : Product) → HasSummary product summary → (result ≡ end) ⊎ (result ≡ ends.WriteFault) → Told (TellsTable product result s) shelf s n t old new
  table_told product has put = record {
    said = ran.said;
    k = ran.k;
    end = ran.end;
    made = ran.made;
    tells = (
      subst (λ e. (result ≡ e) ⊎ (result ≡ ends.WriteFault)) ran.tells.0 put,
      subst (HasSummary product) ran.tells.1 has,
    );
  }
