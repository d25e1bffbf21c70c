-- What follows from the definitions alone.
use Rattle.std.specs.Prelude.{◌≡◌, ◌↔◌, ℕ, List}
use Rattle.shell_parse.specs.declared.token.Token.{Token}
use Rattle.shell_parse.specs.Tokens.{tokens_of, bare}
use Rattle.shell_parse.specs.Trees.{PlainStmt}
use Rattle.shell_parse.specs.Grammar.{IsLine}
use Rattle.shell_parse.specs.Reading.{Statements, Refused, read_line}
use Rattle.shell_parse.specs.Parsed.{HasNone}

-- the statements that are read are those of the grammar
abbrev pub ReadLaw : Type 0
ReadLaw = (line : List ℕ) (stmts : List PlainStmt) → (read_line line ≡ Statements stmts) ↔ IsLine (bare (tokens_of line)) stmts

-- if a column is read, the line has no statements, and the column is that of the first token with which no line
-- continues
abbrev pub RefusedLaw : Type 0
RefusedLaw = (line : List ℕ) (column : ℕ) → read_line line ≡ Refused column → HasNone line column

-- tokens have at most one list of statements
abbrev pub OnlyLaw : Type 0
OnlyLaw = (tokens : List Token) (stmts others : List PlainStmt) → IsLine tokens stmts → IsLine tokens others → stmts ≡ others
