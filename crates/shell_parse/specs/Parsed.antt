-- What parsing a line answers.
use Rattle.std.specs.Prelude.{◌≡◌, ℕ, List, Result, Ok, Err, Vec}
use Rattle.std.specs.declared.alloc.Global.{Global}
use Rattle.shell_parse.specs.Trees.{PlainStmt, plain_stmts}
use Rattle.shell_parse.specs.Tokens.{tokens_of, bare}
use Rattle.shell_parse.specs.Grammar.{IsLine}
use Rattle.shell_parse.specs.Reading.{Reading, Statements, Refused, column_of, IsRefusedAt}
use Rattle.shell_parse.specs.declared.tree.Stmt.{Stmt}
use Rattle.shell_parse.specs.declared.grammar.ParseErr.{ParseErr}
use Rattle.shell_parse.specs.declared.grammar.ParseErr.TheVariants as errors

-- the answer is that reading; an answer that memory ran out says nothing
abbrev pub IsReading : Result (Vec Stmt Global) ParseErr → Reading → Type 0
IsReading (Ok stmts) reading = reading ≡ Statements (plain_stmts stmts.items)
IsReading (Err (errors.Syntax column)) reading = reading ≡ Refused column
IsReading (Err errors.NoMemory) reading = Unit {0}

-- the column is that of the first token with which no line continues
abbrev pub IsFirstRefused : List ℕ → ℕ → Type 0
IsFirstRefused line column = (k : ℕ) × IsRefusedAt (bare (tokens_of line)) k × (column ≡ column_of line (tokens_of line) k)

-- a line has these statements, and no others
pub record HasTrees (line : List ℕ) (stmts : List PlainStmt) : Type 0 where
  pub are : IsLine (bare (tokens_of line)) stmts
  pub only : (others : List PlainStmt) → IsLine (bare (tokens_of line)) others → stmts ≡ others

-- a line has no statements, and its column is that of the first token with which no line continues
pub record HasNone (line : List ℕ) (column : ℕ) : Type 0 where
  pub none : (stmts : List PlainStmt) → IsLine (bare (tokens_of line)) stmts → ⊥
  pub first : IsFirstRefused line column

-- the answer is what the grammar says of the line; an answer that memory ran out says nothing
abbrev pub IsParsed : Result (Vec Stmt Global) ParseErr → List ℕ → Type 0
IsParsed (Ok stmts) line = HasTrees line (plain_stmts stmts.items)
IsParsed (Err (errors.Syntax column)) line = HasNone line column
IsParsed (Err errors.NoMemory) line = Unit {0}
