-- The lines of a run after instructions that were made at once.
use Rattle.std.proofs.Common.{◌≡◌, ℕ, zero, suc, ◌+◌, ◌<◌, List, None, Some, refl, sym, subst, ◌∙◌, arith}
use Rattle.kernel_world.specs.declared.actor.Actor.{Actor}
use Rattle.wind_machine.specs.State.{State}
use Rattle.wind_machine.specs.Run.{Answers, after}
use Rattle.wind_machine.specs.Silent.{SilentSteps, last_actor}
use Rattle.board_trace.specs.Runs.{Line}
use Rattle.board_trace.specs.Snapshots.{snapshot_of}
use Rattle.board_trace.specs.Subjects.{name_of, subject_actor}
use Rattle.board_trace.specs.Views.{SnapshotState}
use Rattle.board_trace.specs.declared.happening.Happening.TheVariants as told
use Rattle.trace_text.specs.Pages.{Ends, PageState}
use Rattle.trace_session.specs.Choice.{AreAlike, ChoiceState, chosen, chosen_lines, is_chosen, with_if}
use Rattle.trace_session.specs.Bursts.{SilentLinesLaw, instructions_line, with_instructions}
use Rattle.trace_session.proofs.SilentLines.{made_by}

-- if nobody made a step before, none is made at once
pub none_made : (k : ℕ) (u t : State) → last_actor u.world ≡ None → SilentSteps k u t → k ≡ 0
none_made zero u t none steps = refl
none_made (suc k) u t none steps = let x = made_by k u t steps in let bad : None ≡ Some x.0 = sym none ∙ x.1 in absurd (cc)

-- then everything stays as it is
module _ (k : ℕ) (u t : State) (zero_is : k ≡ 0) (steps : SilentSteps k u t) where
  pub same_state : t ≡ u
  same_state = let P : ℕ → Type 0 = λ n. SilentSteps n u t in subst P zero_is steps

  pub same_ends : (is_line : Line → List ℕ → Type 0) (c : ChoiceState) (page : PageState) (said : Answers) (s : State) (i : ℕ) (given : List ℕ) → Ends is_line given page (chosen_lines c said s i) → Ends is_line given page (chosen_lines c said s (i + k))
  same_ends is_line c page said s i given ends =
      let e : i ≡ i + k = omega (arith, zero_is) in
      subst (λ n. Ends is_line given page (chosen_lines c said s n)) e ends

-- the line of one or more instructions
with_some : (c : ChoiceState) (k : ℕ) (u : State) (who : Actor) (made : List Line) → 0 < k
    → with_if (is_chosen c (instructions_line u who 1)) (instructions_line u who k) made ≡ with_instructions c k u who made
with_some c zero u who made some = absurd (omega (arith, some))
with_some c (suc k) u who made some = refl

abbrev line_with : ℕ → ℕ → SnapshotState → Actor → ℕ → Line
line_with time step views who k = record { time = time; step = step; name = name_of views (subject_actor who); what = told.Instructions who k }

pub lines_burst : (is_line : Line → List ℕ → Type 0) → SilentLinesLaw → (c : ChoiceState) (k : ℕ) (u t : State) (who : Actor) (time step : ℕ) (views : SnapshotState) (page next : PageState) → 0 < k → last_actor u.world ≡ Some who → SilentSteps k u t → AreAlike c u.steps k
    → time ≡ u.time → step ≡ u.steps + 1 → views ≡ snapshot_of u.world
    → ((given : List ℕ) (made : List Line) → Ends is_line given page made
    → Ends is_line given next (with_if (chosen c step (told.Instructions who 1)) (record { time = time; step = step; name = name_of views (subject_actor who); what = told.Instructions who k }) made))
    → (said : Answers) (s : State) (i : ℕ) (given : List ℕ) → u ≡ after said s i → Ends is_line given page (chosen_lines c said s i) → Ends is_line given next (chosen_lines c said s (i + k))
lines_burst is_line law c k u t who time step views page next some last steps alike time_is step_is views_are adds said s i given here ends =
    let lines = chosen_lines c said s i in
    let P : ℕ → ℕ → SnapshotState → Type 0 = λ a b v. Ends is_line given next (with_if (chosen c b (told.Instructions who 1)) (line_with a b v who k) lines) in
    subst (Ends is_line given next) (with_some c k u who lines some ∙ sym (law c said s u t who i k here last steps alike))
    (subst (λ v. P u.time (u.steps + 1) v) views_are (subst (λ b. P u.time b views) step_is (subst (λ a. P a step views) time_is (adds given lines ends))))
