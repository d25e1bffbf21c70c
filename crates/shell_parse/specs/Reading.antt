-- What reading a line gives: its statements, or the column of the first refused token.
use Rattle.std.specs.Prelude.{ℕ, ◌+◌, List, ◌∷◌, ◌++◌, Option, Some, None, unwrap_or, slice_get, take, length}
use Rattle.shell_parse.specs.declared.token.Token.{Token}
use Rattle.shell_parse.specs.Tokens.{Placed, tokens_of, bare, columns}
use Rattle.shell_parse.specs.Trees.{PlainStmt}
use Rattle.shell_parse.specs.Grammar.{IsLine}
use Rattle.shell_parse.specs.Descent.{stmts_of}
use Rattle.shell_parse.specs.Allowed.{begun}

-- some line begins with these tokens
abbrev pub Begins : List Token → Type 0
Begins prefix = (more : List Token) × ((ss : List PlainStmt) × IsLine (prefix ++ more) ss)

-- some line continues after these tokens with this one; the end, given as none, may come if they are a whole line
abbrev pub MayCome : List Token → Option Token → Type 0
MayCome prefix (Some t) = (more : List Token) × ((ss : List PlainStmt) × IsLine (prefix ++ t ∷ more) ss)
MayCome prefix None = (ss : List PlainStmt) × IsLine prefix ss

-- token number k is the first with which no line continues
pub record IsRefusedAt (ts : List Token) (k : ℕ) : Type 0 where
  pub begins : Begins (take k ts)
  pub refused : MayCome (take k ts) (slice_get ts k) → ⊥

-- the column of token number k of a line, counted from 0; the end of the line counts as a token
abbrev pub column_of : List ℕ → List Placed → ℕ → ℕ
column_of line tokens k = unwrap_or (slice_get (columns tokens) k) (length line + 1)

-- a reading: the statements of a line, or the column of the first refused token
pub data Reading : Type 0 where
  Statements : List PlainStmt → Reading
  Refused : ℕ → Reading

-- the statements that are read, or otherwise the column of the refused token
abbrev pub reading_of : Option (List PlainStmt) → ℕ → Reading
reading_of (Some stmts) column = Statements stmts
reading_of None column = Refused column

-- what reading a line gives
unfoldable pub read_line : List ℕ → Reading
read_line line = reading_of (stmts_of (bare (tokens_of line))) (column_of line (tokens_of line) (begun (bare (tokens_of line))))
