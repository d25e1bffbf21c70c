use Rattle.std.proofs.Common.{◌≡◌, ◌+◌, ◌≤◌, ◌++◌, length}
use Rattle.shell_parse.specs.Tokens.{tokens_from, bare, columns}
use Rattle.shell_parse.specs.declared.token.Spot.TheVariants.{AtStart}
use Rattle.shell_parse.proofs.lexer.tokens.Given as goal

-- the tokens so far, and those of the bytes that are left
abbrev pub invariant-loop-first : goal.invariant-loop-first
invariant-loop-first l = record {
  few : length l.tokens.items + 1 ≤ l.column;
  place : l.column + length l.left ≡ length l.line + 1;
  tokens : l.tokens.items ++ bare (tokens_from l.spot l.column 0 l.left) ≡ bare (tokens_from AtStart 1 0 l.line);
  columns : l.columns.items ++ columns (tokens_from l.spot l.column 0 l.left) ≡ columns (tokens_from AtStart 1 0 l.line);
}

abbrev pub decreases-loop-first : goal.decreases-loop-first
decreases-loop-first l = length l.left
