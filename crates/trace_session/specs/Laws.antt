-- Laws on the lines of a run. Lists of lines are the newest first.
use Rattle.std.specs.Prelude.{◌≡◌, ℕ, zero, suc, ◌+◌, ◌<◌, Bool, true, false, if◌then◌else◌, List, [], ◌∷◌, ◌++◌, ◌⊎◌, ◌≤◌, Some, IsSome}
use Rattle.wind_machine.specs.Machine.{machine_step}
use Rattle.wind_machine.specs.State.{State}
use Rattle.wind_machine.specs.Run.{Answers, after, text}
use Rattle.board_trace.specs.Before.{before_step}
use Rattle.board_trace.specs.Observed.{part_spans}
use Rattle.board_trace.specs.Runs.{Line, lines_of, step_lines}
use Rattle.board_trace.specs.Snapshots.{snapshot_of}
use Rattle.board_trace.specs.Steps.{is_instruction}
use Rattle.board_trace.specs.declared.happening.Happening.{Happening}
use Rattle.board_trace.specs.declared.happening.Happening.TheVariants as told
use Rattle.trace_picture.specs.Areas.{areas_of}
use Rattle.trace_session.specs.Choice.{ChoiceState, chosen_lines, everything, is_up_to}
use Rattle.trace_session.specs.Shown.{shown_areas}
use Rattle.trace_session.specs.Spans.{part_of, spans_of}
use Rattle.trace_session.specs.Summing.{run_summary}
use Rattle.trace_session.specs.Watching.{span_lists_of}
use Rattle.trace_summary.specs.TasksLaws.{are_single, has_row, is_viewed}
use Rattle.trace_text.specs.Pages.{count_of, is_instructions}

-- how many instructions these lines tell of
abbrev pub instructions_in : List Line → ℕ
instructions_in [] = 0
instructions_in (newest ∷ older) = count_of newest.what + instructions_in older

-- the lines that tell of anything else
abbrev pub others_in : List Line → List Line
others_in [] = []
others_in (newest ∷ older) = if is_instructions newest.what then others_in older else newest ∷ others_in older

-- what a happening writes
abbrev pub written_by : Happening → List ℕ
written_by (told.Writes who bytes) = bytes
written_by h = []

-- what the lines say is written, the oldest first
abbrev pub written_in : List Line → List ℕ
written_in [] = []
written_in (newest ∷ older) = written_in older ++ written_by newest.what

-- adds lines, the oldest of them first, and joins none
abbrev pub with_each : List Line → List Line → List Line
with_each [] made = made
with_each (next ∷ others) made = with_each others (next ∷ made)

-- the lines of the first k steps from s before any are joined
abbrev pub single_lines : Answers → State → ℕ → List Line
single_lines said s zero = []
single_lines said s (suc k) = with_each (step_lines (said k) (after said s k) (after said s (suc k))) (single_lines said s k)

-- joining lines of instructions keeps how many instructions they tell of, and it keeps the other lines in their order;
-- what the lines say is written is what the steps write
pub record LinesLaw : Type 0 where
  pub instructions : (said : Answers) (s : State) (k : ℕ) → instructions_in (lines_of said s k) ≡ instructions_in (single_lines said s k)
  pub others : (said : Answers) (s : State) (k : ℕ) → others_in (lines_of said s k) ≡ others_in (single_lines said s k)
  pub written : (said : Answers) (s : State) (k : ℕ) → written_in (lines_of said s k) ≡ text said s k

-- if everything is chosen, the lines are those of the run, and a picture shows all areas of its spans
pub record EverythingLaw : Type 0 where
  pub lines : (said : Answers) (s : State) (k : ℕ) → chosen_lines everything said s k ≡ lines_of said s k
  pub areas : (said : Answers) (s : State) (k : ℕ) → shown_areas everything (part_of everything said s k).done ≡ areas_of (spans_of said s k).done

-- the spans of a run's summary are those of a picture of the whole run
abbrev pub SummarySpansLaw : Type 0
SummarySpansLaw = (said : Answers) (s : State) (k : ℕ) → (span_lists_of said s k).all ≡ (spans_of said s k).done

-- a task with this id lives in this state
abbrev pub lives_in : ℕ → State → Bool
lives_in id s = is_viewed id (snapshot_of s.world).tasks

-- the step that leads from one state to the next isn't one instruction
abbrev pub IsOther : State → State → Type 0
IsOther s t = is_instruction (before_step s) t.world.output ≡ false

-- the summary of a run has one row for each task that lives at the start, and one for each that lives after a step, other than
-- an instruction, and not before it
pub record SummaryTasksLaw : Type 0 where
  pub first : (said : Answers) (s : State) (k id : ℕ) → lives_in id s ≡ true → has_row id (run_summary said s k).tasks ≡ true
  pub later : (said : Answers) (s : State) (k j id : ℕ) → j < k → IsOther (after said s j) (after said s (suc j))
      → lives_in id (after said s j) ≡ false → lives_in id (after said s (suc j)) ≡ true → has_row id (run_summary said s k).tasks ≡ true
  pub single : (said : Answers) (s : State) (k : ℕ) → are_single (run_summary said s k).tasks ≡ true

-- of the first k steps, those of a choice are the n after the first m, and there is one
pub record ArePart (c : ChoiceState) (k m n : ℕ) : Type 0 where
  pub first : c.first ≡ m + 1
  pub some : 0 < n
  pub made : m + n ≤ k
  pub last : (c.last ≡ Some (m + n)) ⊎ ((m + n ≡ k) × (is_up_to c.last k ≡ true))

-- in a run of k steps from a state without one, the spans of a choice's steps are those of the part that has these steps
abbrev pub PartLaw : Type 0
PartLaw =
    (said : Answers) (s : State) (c : ChoiceState) (k m n : ℕ) → s.steps ≡ 0 → ((j : ℕ) → j < k → IsSome (machine_step (said j) (after said s j))) → ArePart c k m n
    → (part_of c said s k).done ≡ part_spans said s m n
