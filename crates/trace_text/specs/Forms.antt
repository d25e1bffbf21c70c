-- Forms in which the lines of a run are written. A form says which texts a line may have.
use Rattle.std.specs.Prelude.{◌≡◌, ℕ, List, [], ◌∷◌, ◌++◌}
use Rattle.board_changes.specs.declared.view.TaskView.{TaskView}
use Rattle.board_trace.specs.Runs.{Line}
use Rattle.trace_text.specs.declared.form.Outcome.{Outcome}

-- how a run ended: board time, the number of the last step, how in words, the tasks that are left, and how many bytes of
-- the console file haven't arrived
pub record OutcomeState : Type 0 where
  pub time : ℕ
  pub step : ℕ
  pub how : List ℕ
  pub tasks : List TaskView
  pub left : ℕ

-- how a run ended, as plain data
abbrev pub outcome_state : Outcome → OutcomeState
outcome_state o = record { time = o.at.time; step = o.at.step; how = o.how.now; tasks = o.tasks.now; left = o.left }

-- a text gained a piece of this kind at its end
pub record Gained (IsPiece : List ℕ → Type 0) (old new : List ℕ) : Type 0 where
  pub piece : List ℕ
  pub text_is : new ≡ old ++ piece
  pub is_piece : IsPiece piece

-- a text is a text of the first kind, and then a piece of the second kind
pub record Joins (IsText : List ℕ → Type 0) (IsPiece : List ℕ → Type 0) (text : List ℕ) : Type 0 where
  pub before : List ℕ
  pub is_text : IsText before
  pub gained : Gained IsPiece before text

-- a text has these lines, given newest first, each in a form
abbrev pub HasLines : (Line → List ℕ → Type 0) → List Line → List ℕ → Type 0
HasLines is_line [] text = text ≡ []
HasLines is_line (newest ∷ older) text = Joins (HasLines is_line older) (is_line newest) text
