-- The line of a happening: `TIME STEP WHO WHAT`.
use Rattle.std.specs.Prelude.{ℕ, ◌-◌, List, [], ◌∷◌, ◌++◌, take, length, replicate, codes}
use Rattle.std.specs.Fmt.{decimal}
use Rattle.board_trace.specs.Runs.{Line}
use Rattle.board_trace.specs.Subjects.{subject_of}
use Rattle.board_trace.specs.declared.who.Subject.{Subject}
use Rattle.board_trace.specs.declared.who.Subject.TheVariants as subjects
use Rattle.trace_text.specs.Happenings.{happening_text}
use Rattle.trace_text.specs.Pieces.{escaped}

-- ---- the columns
abbrev pub blanks : ℕ → List ℕ
blanks n = replicate n 32

-- a number at the right of its column, and a blank; a longer number makes its column wider
abbrev pub right : ℕ → ℕ → List ℕ
right bytes n = blanks (bytes - length (decimal n)) ++ (decimal n ++ blanks 1)

-- a text at the left of its column, cut or filled to its width, and two blanks
abbrev pub left : ℕ → List ℕ → List ℕ
left bytes text = take bytes text ++ (blanks (bytes - length text) ++ blanks 2)

-- who a line is told of; a task with its id and its name
abbrev pub subject_text : Subject → List ℕ → List ℕ
subject_text subjects.Board name = codes "board"
subject_text subjects.Interrupt name = codes "interrupt"
subject_text (subjects.Task id) name = decimal id ++ (codes " " ++ escaped name)

-- the columns before a happening: board time in 10 bytes, the step in 9, and who it is told of in 16
abbrev pub columns : ℕ → ℕ → Subject → List ℕ → List ℕ
columns time step who name = right 10 time ++ (right 9 step ++ (blanks 1 ++ left 16 (subject_text who name)))

-- the text of a line
abbrev pub line_text : Line → List ℕ
line_text l = columns l.time l.step (subject_of l.what) l.name ++ (happening_text l.what ++ codes "\n")

-- the text of lines that are given newest first
abbrev pub lines_text : List Line → List ℕ
lines_text [] = []
lines_text (newest ∷ older) = lines_text older ++ line_text newest
