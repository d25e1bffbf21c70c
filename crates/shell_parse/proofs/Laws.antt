-- Reading a line agrees with the grammar.
use Rattle.std.proofs.Common.{◌≡◌, ℕ, List, Option, Some, None, refl, ap}
use Rattle.shell_parse.specs.Tokens.{tokens_of, bare}
use Rattle.shell_parse.specs.Trees.{PlainStmt}
use Rattle.shell_parse.specs.Descent.{stmts_of}
use Rattle.shell_parse.specs.Allowed.{begun}
use Rattle.shell_parse.specs.Reading.{Statements, Refused, reading_of, read_line, column_of}
use Rattle.shell_parse.specs.Parsed.{HasTrees, HasNone}
use Rattle.shell_parse.specs.Laws.{ReadLaw, OnlyLaw}
use Rattle.shell_parse.proofs.Lines.{stmts_complete, stmts_sound}
use Rattle.shell_parse.proofs.Refusal.{begun_refused}

statements_read : (found : Option (List PlainStmt)) (column : ℕ) (ss : List PlainStmt) → reading_of found column ≡ Statements ss → found ≡ Some ss
statements_read (Some found) column ss h = cc
statements_read None column ss h = cc

none_read : (found : Option (List PlainStmt)) (column c : ℕ) → reading_of found column ≡ Refused c → (found ≡ None) × (c ≡ column)
none_read (Some found) column c h = cc
none_read None column c h = (refl, cc)

-- tokens have at most one list of statements
pub only_one : OnlyLaw
only_one ts ss others l m =
    let a : stmts_of ts ≡ Some ss = stmts_complete ts ss l in
    let b : stmts_of ts ≡ Some others = stmts_complete ts others m in
    cc

pub read_iff : ReadLaw
unfolding read_line
read_iff line ss = (
  (λ h. stmts_sound (bare (tokens_of line)) ss (statements_read (stmts_of (bare (tokens_of line))) _ ss h)),
  (λ l. ap (λ found. reading_of found (column_of line (tokens_of line) (begun (bare (tokens_of line))))) (stmts_complete (bare (tokens_of line)) ss l)),
)

-- the statements that are read are the line's, and no others are
pub read_trees : (line : List ℕ) (ss : List PlainStmt) → read_line line ≡ Statements ss → HasTrees line ss
read_trees line ss h = let l = (read_iff line ss).0 h in record { are = l; only = λ others m. only_one (bare (tokens_of line)) ss others l m }

-- if a column is read, the line has no statements, and the column is that of the first token with which no line
-- continues
pub read_none : (line : List ℕ) (column : ℕ) → read_line line ≡ Refused column → HasNone line column
unfolding read_line
read_none line column h =
    let none = none_read (stmts_of (bare (tokens_of line))) (column_of line (tokens_of line) (begun (bare (tokens_of line)))) column h in
    record {
      none = λ ss l. let found : stmts_of (bare (tokens_of line)) ≡ Some ss = stmts_complete (bare (tokens_of line)) ss l in cc;
      first = (begun (bare (tokens_of line)), begun_refused (bare (tokens_of line)) none.0, none.1);
    }
