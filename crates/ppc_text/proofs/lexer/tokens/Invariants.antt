use Rattle.std.proofs.Common.{◌≡◌, ◌++◌, length}
use Rattle.ppc_text.specs.Tokens.{tokens_from}
use Rattle.ppc_text.proofs.lexer.tokens.Given as goal

-- the tokens so far, then those of the bytes left, are all tokens of the line
abbrev pub invariant-loop-first : goal.invariant-loop-first
invariant-loop-first l = l.tokens.items ++ tokens_from 0 l.left ≡ tokens_from 0 l.line

abbrev pub decreases-loop-first : goal.decreases-loop-first
decreases-loop-first l = length l.left
