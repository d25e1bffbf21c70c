-- What a traced run leaves.
use Rattle.std.specs.Prelude.{◌≡◌, ◌⊎◌, ℕ, ◌≤◌, List, ◌++◌, Option, length, codes}
use Rattle.wind_outside.specs.Appending.{Appended, AppendedPrefix}
use Rattle.wind_machine.specs.State.{State}
use Rattle.wind_machine.specs.Run.{Answers, after}
use Rattle.wind_session.specs.declared.run.RunEnd.{RunEnd}
use Rattle.wind_session.specs.declared.run.RunEnd.TheVariants as ends
use Rattle.board_trace.specs.Runs.{Line}
use Rattle.board_trace.specs.Snapshots.{snapshot_of}
use Rattle.board_trace.specs.Views.{SnapshotState}
use Rattle.board_changes.specs.Spans.{SpanState}
use Rattle.trace_session.specs.Choice.{ChoiceState, chosen_lines}
use Rattle.trace_session.specs.declared.traced.Product.{Product}
use Rattle.trace_session.specs.declared.traced.Product.TheVariants as products
use Rattle.trace_session.specs.Shown.{Pictures, shown_areas}
use Rattle.trace_session.specs.Spans.{part_after, part_of}
use Rattle.trace_picture.specs.declared.areas.Area.{Area}
use Rattle.trace_state.specs.Board.{IsTextOf, board_data}
use Rattle.trace_json.specs.Lines.{end_data, line_data}
use Rattle.trace_text.specs.Ending.{last_line}
use Rattle.trace_text.specs.Forms.{HasLines, Joins, OutcomeState}
use Rattle.trace_text.specs.Lines.{lines_text}
use Rattle.trace_text.specs.Pages.{Ends, PageState, count_in}

-- ---- lines
-- what the last line says of how a run ended
abbrev pub how_text : RunEnd → List ℕ
how_text ends.Quiet = codes "no step is left"
how_text ends.Limit = codes "the limit of steps is reached"
how_text ends.ReadFault = codes "a file could not be read"
how_text ends.WriteFault = codes "writing failed"
how_text ends.NoMemory = codes "host memory ran out"

-- the last line of a run that ended like this in this state
abbrev pub last_line_of : RunEnd → State → List ℕ
last_line_of end s = last_line s.time s.steps (how_text end) (snapshot_of s.world).tasks (length s.left)

-- the lines of the first k steps from s that are told, and the last line
abbrev pub events_text : ChoiceState → RunEnd → Answers → State → ℕ → List ℕ
events_text c end said s k = lines_text (chosen_lines c said s k) ++ last_line_of end (after said s k)

-- the sink gained the text of a run that ended like this; or a prefix of it, because a put failed
abbrev pub IsPutOf : List ℕ → RunEnd → RunEnd → Option (List ℕ) → Option (List ℕ) → Type 0
IsPutOf text result end old new = ((result ≡ end) × Appended old new text) ⊎ ((result ≡ ends.WriteFault) × AppendedPrefix old new text)

-- the lines of a run that are chosen were put
abbrev pub TellsEvents : ChoiceState → RunEnd → State → Option (List ℕ) → Option (List ℕ) → Answers → ℕ → RunEnd → Type 0
TellsEvents c result s old new said k end = IsPutOf (events_text c end said s k) result end old new

-- memory ran out for the trace: a prefix of the chosen lines of the first j of k steps was put
abbrev pub TellsPart : ChoiceState → State → Option (List ℕ) → Option (List ℕ) → Answers → ℕ → RunEnd → Type 0
TellsPart c s old new said k end = (j : ℕ) × (j ≤ k) × AppendedPrefix old new (lines_text (chosen_lines c said s j))

-- ---- lines in any form
-- how a run ended in this state
abbrev pub outcome_of : RunEnd → State → OutcomeState
outcome_of end s = record { time = s.time; step = s.steps; how = how_text end; tasks = (snapshot_of s.world).tasks; left = length s.left }

-- the sink gained a prefix of a text of these lines; the newest lines may be missing in that text
pub record HoldsSome (is_line : Line → List ℕ → Type 0) (old new : Option (List ℕ)) (lines : List Line) : Type 0 where
  pub newer : List Line
  pub older : List Line
  pub lines_are : lines ≡ newer ++ older
  pub text : List ℕ
  pub has_lines : HasLines is_line older text
  pub gained : AppendedPrefix old new text

-- the chosen lines of a run were put in a form, and after them how the run ended; or a prefix, because a put failed
abbrev pub TellsLines : (Line → List ℕ → Type 0) → (OutcomeState → List ℕ → Type 0) → ChoiceState → RunEnd → State → Option (List ℕ) → Option (List ℕ) → Answers → ℕ → RunEnd → Type 0
TellsLines is_line is_end c result s old new said k end =
    ((text : List ℕ) × Joins (HasLines is_line (chosen_lines c said s k)) (is_end (outcome_of end (after said s k))) text × IsPutOf text result end old new)
    ⊎ ((result ≡ ends.WriteFault) × HoldsSome is_line old new (chosen_lines c said s k))

-- memory ran out for the trace: a prefix of the chosen lines of the first j of k steps was put
abbrev pub TellsSome : (Line → List ℕ → Type 0) → ChoiceState → State → Option (List ℕ) → Option (List ℕ) → Answers → ℕ → RunEnd → Type 0
TellsSome is_line c s old new said k end = (j : ℕ) × (j ≤ k) × HoldsSome is_line old new (chosen_lines c said s j)

-- the text and a newline; the text reads back as the object of a line, or of the end of a run
abbrev pub IsObjectOf : Line → List ℕ → Type 0
IsObjectOf l text = IsTextOf text (line_data l)

abbrev pub IsLastObject : OutcomeState → List ℕ → Type 0
IsLastObject e text = IsTextOf text (end_data e)

-- ---- a run under way
-- the sink gained a text, and that text with the page's is a text of these lines
pub record HoldsLines (is_line : Line → List ℕ → Type 0) (old new : Option (List ℕ)) (page : PageState) (lines : List Line) : Type 0 where
  pub given : List ℕ
  pub gained : Appended old new given
  pub ends : Ends is_line given page lines

-- the same of the lines of the first k steps that are chosen
abbrev pub HoldsSteps : (Line → List ℕ → Type 0) → ChoiceState → Option (List ℕ) → Option (List ℕ) → PageState → Answers → State → ℕ → Type 0
HoldsSteps is_line c old new page said s k = HoldsLines is_line old new page (chosen_lines c said s k)

-- the sink gained a prefix of a text of some of them
abbrev pub HoldsPart : (Line → List ℕ → Type 0) → ChoiceState → Option (List ℕ) → Option (List ℕ) → Answers → State → ℕ → Type 0
HoldsPart is_line c old new said s k = HoldsSome is_line old new (chosen_lines c said s k)

-- the snapshot is that of this state, and no more instructions wait than steps were made
abbrev pub IsReady : SnapshotState → PageState → State → Type 0
IsReady before page u = (before ≡ snapshot_of u.world) × (count_in page.growing ≤ u.steps)

-- ---- spans under way
-- the picture is one of the spans of a choice's steps among the first k
abbrev pub SeesSteps : ChoiceState → SpanState → List Area → Answers → State → ℕ → Type 0
SeesSteps c kept areas said s k = Pictures c kept areas (part_after c said s k)

-- ---- the other forms
-- nothing is told of the run
abbrev pub TellsNothing : Answers → ℕ → RunEnd → Type 0
TellsNothing said k end = Unit {0}

-- the board that is left was put as JSON
abbrev pub TellsState : RunEnd → State → Option (List ℕ) → Option (List ℕ) → Answers → ℕ → RunEnd → Type 0
TellsState result s old new said k end = (text : List ℕ) × IsTextOf text (board_data (after said s k)) × IsPutOf text result end old new

-- the run ended like this, or the put of what is told of it failed
abbrev pub IsPutAfter : RunEnd → Answers → ℕ → RunEnd → Type 0
IsPutAfter result said k end = (result ≡ end) ⊎ (result ≡ ends.WriteFault)

-- the same, and a picture is left: the areas of the spans of the run that are chosen
abbrev pub TellsAreas : ChoiceState → Product → RunEnd → State → Answers → ℕ → RunEnd → Type 0
TellsAreas c product result s said k end = IsPutAfter result said k end × (product ≡ products.Picture (shown_areas c (part_of c said s k).done))

-- this is told, and nothing is left besides the text
abbrev pub Alone : Product → (Answers → ℕ → RunEnd → Type 0) → Answers → ℕ → RunEnd → Type 0
Alone product Tells said k end = (product ≡ products.Text) × Tells said k end
