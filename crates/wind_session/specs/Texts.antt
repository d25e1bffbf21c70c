-- The texts on the second sink, one for each status. They are this project's own, except the one for invalid arguments.
use Rattle.std.specs.Prelude.{◌≡◌, ℕ, List, [], ◌++◌, Option, Some, None, ◌⊎◌, codes}
use Rattle.std.specs.Fmt.{decimal}
use Rattle.wind_outside.specs.Appending.{Appended}
use Rattle.wind_outside.specs.Counts.{Rose}
use Rattle.wind_session.specs.Command.{CommandState}
use Rattle.wind_session.specs.Keeping.{Messages}
use Rattle.wind_session.specs.declared.ending.Status.{Status}
use Rattle.wind_session.specs.declared.ending.Status.TheVariants as status
use Rattle.wind_session.specs.declared.ending.Which.{Which}
use Rattle.wind_session.specs.declared.ending.Which.TheVariants as which

-- the name that the arguments give for a file
abbrev pub name_of : CommandState → Which → List ℕ
name_of c which.Console = c.console
name_of c which.Ticks = c.ticks

-- a text of one line, after the name of the program
abbrev pub line_text : List ℕ → List ℕ → List ℕ
line_text program text = program ++ codes ": " ++ text

-- the text if memory ran out
abbrev pub memory_text : List ℕ → List ℕ
memory_text program = line_text program (codes "out of memory\n")

-- the text of this program for a status of a command; with a command, the status is never Usage
unfoldable pub status_text : List ℕ → CommandState → Status → List ℕ
status_text program c status.Quiet = []
status_text program c status.Usage = []
status_text program c (status.Absent file) = line_text program (name_of c file ++ codes ": not found\n")
status_text program c status.Limit = line_text program (codes "limit of " ++ decimal c.limit ++ codes " steps reached\n")
status_text program c status.ReadFault = line_text program (codes "reading failed\n")
status_text program c status.WriteFault = line_text program (codes "writing failed\n")
status_text program c status.NoMemory = memory_text program
status_text program c (status.BadTicks line) = line_text program (c.ticks ++ codes ": line " ++ decimal line ++ codes " is not understood\n")
status_text program c (status.TooLong file) = line_text program (name_of c file ++ codes ": too long\n")

-- the text of this program for a status; for invalid arguments it is `clap`'s own, which this doesn't specify
abbrev pub IsText : List ℕ → Option CommandState → Status → List ℕ → Type 0
IsText program (Some c) s text = text ≡ status_text program c s
IsText program None status.NoMemory text = text ≡ memory_text program
IsText program None s text = Unit {0}

-- a prefix of the text was added, and the count of faults rose
pub record IsCutShort (old new : Option (List ℕ)) (text : List ℕ) (rose : Type 0) : Type 0 where
  pub prefix : List ℕ
  pub rest : List ℕ
  pub whole : prefix ++ rest ≡ text
  pub gained : Appended old new prefix
  pub fault : rose

-- the text was added, or a prefix of it and the count of faults rose
abbrev pub IsPrinted : Option (List ℕ) → Option (List ℕ) → List ℕ → Type 0 → Type 0
IsPrinted old new text rose = Appended old new text ⊎ IsCutShort old new text rose

-- the program's text for the status was reported
pub record Tells (program : List ℕ) (s : Status) (command : Option CommandState) (before after : Messages) : Type 0 where
  pub text : List ℕ
  pub text_is : IsText program command s text
  pub printed : IsPrinted before.bytes after.bytes text (Rose before.faults after.faults)
