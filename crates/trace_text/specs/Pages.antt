-- A page: the end of the text of the lines of a run. Instructions wait for further ones before they are a line of it.
use Rattle.std.specs.Prelude.{◌≡◌, ℕ, Bool, true, false, List, ◌∷◌, [], ◌++◌, Option, None, Some}
use Rattle.board_trace.specs.Runs.{Line, joined}
use Rattle.board_trace.specs.declared.happening.Happening.{Happening}
use Rattle.board_trace.specs.declared.happening.Happening.TheVariants as told
use Rattle.trace_text.specs.Forms.{HasLines}
use Rattle.trace_text.specs.declared.page.Instructions.{Instructions}

-- its text, and the instructions that wait; their line may still grow
pub record PageState : Type 0 where
  pub text : List ℕ
  pub growing : Option Instructions

-- the line of instructions that wait, with the time and the step of the first
abbrev pub line_of : Instructions → Line
line_of i = record { time = i.time; step = i.step; name = i.name; what = told.Instructions i.who i.count }

abbrev pub waiting_line : Option Instructions → Option Line
waiting_line None = None
waiting_line (Some i) = Some (line_of i)

-- instructions may be joined with further ones
abbrev pub is_instructions : Happening → Bool
is_instructions (told.Instructions who count) = true
is_instructions h = false

abbrev pub may_grow : List Line → Bool
may_grow [] = false
may_grow (newest ∷ older) = is_instructions newest.what

-- the newest line waits: it is of instructions, and the others have a text
pub record Waits (is_line : Line → List ℕ → Type 0) (newest : Line) (lines : List Line) (text : List ℕ) : Type 0 where
  pub older : List Line
  pub lines_are : lines ≡ newest ∷ older
  pub grows : is_instructions newest.what ≡ true
  pub text_is : HasLines is_line older text

-- the earlier output and then the page are a text of these lines, newest first, in a form
abbrev pub EndsBy : (Line → List ℕ → Type 0) → List ℕ → Option Line → List Line → Type 0
EndsBy is_line text None lines = HasLines is_line lines text × (may_grow lines ≡ false)
EndsBy is_line text (Some newest) lines = Waits is_line newest lines text

abbrev pub Ends : (Line → List ℕ → Type 0) → List ℕ → PageState → List Line → Type 0
Ends is_line given page lines = EndsBy is_line (given ++ page.text) (waiting_line page.growing) lines

-- how many instructions wait
abbrev pub count_of : Happening → ℕ
count_of (told.Instructions who count) = count
count_of h = 0

abbrev pub count_in : Option Instructions → ℕ
count_in None = 0
count_in (Some i) = i.count

-- the line that waits, joined with what happens next, if that is possible
abbrev pub joined_line : Option Happening → Line → Option Line
joined_line None l = None
joined_line (Some h) l = Some (record l { what = h })

abbrev pub grown : Option Line → Happening → Option Line
grown None h = None
grown (Some l) h = joined_line (joined l.what h) l

-- a text of the line that waits, or no text
abbrev pub IsGrowing : (Line → List ℕ → Type 0) → Option Line → List ℕ → Type 0
IsGrowing is_line None text = text ≡ []
IsGrowing is_line (Some l) text = is_line l text
