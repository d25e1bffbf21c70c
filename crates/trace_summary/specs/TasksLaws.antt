-- Which tasks a summary has.
use Rattle.std.specs.Prelude.{◌≡◌, ℕ, ◌==◌, ◌&&◌, ◌||◌, not, Bool, true, List, [], ◌∷◌}
use Rattle.std.specs.List.{list_any}
use Rattle.board_changes.specs.declared.view.TaskView.{TaskView}
use Rattle.board_trace.specs.Runs.{Line}
use Rattle.board_trace.specs.Subjects.{subject_of}
use Rattle.trace_summary.specs.Figures.{is_task}
use Rattle.trace_summary.specs.Summaries.{summary_of}
use Rattle.trace_summary.specs.Times.{SpanLists}
use Rattle.trace_summary.specs.declared.summary.TaskSummary.{TaskSummary}

-- a row is of the task with this id
abbrev pub has_row : ℕ → List TaskSummary → Bool
has_row id rows = list_any (λ t. t.id == id) rows

-- no two rows are of the same task
abbrev pub are_single : List TaskSummary → Bool
are_single [] = true
are_single (t ∷ rows) = not (has_row t.id rows) && are_single rows

-- a view is of this task
abbrev pub is_viewed : ℕ → List TaskView → Bool
is_viewed id views = list_any (λ v. v.id == id) views

-- a line tells of this task
abbrev pub is_told : ℕ → List Line → Bool
is_told id lines = list_any (λ l. is_task id (subject_of l.what)) lines

-- a summary has a row for each task that lives at the start and each that a line tells of, and no other row; and one row for
-- each of them
pub record TasksLaw : Type 0 where
  pub rows : (views : List TaskView) (lines : List Line) (spans : SpanLists) (time steps id : ℕ)
      → has_row id (summary_of views lines spans time steps).tasks ≡ (is_viewed id views || is_told id lines)
  pub single : (views : List TaskView) (lines : List Line) (spans : SpanLists) (time steps : ℕ)
      → are_single (summary_of views lines spans time steps).tasks ≡ true
