use Rattle.std.proofs.Common.{◌≡◌, length, true}
use Rattle.ppc_text.specs.Lines.{and_values, values_from}
use Rattle.ppc_text.proofs.line.values_of.Given as goal

-- the words so far, then those of the tokens left, are all words
abbrev pub invariant-loop-value : goal.invariant-loop-value
invariant-loop-value l = and_values l.kept.items (values_from true 0 l.left) ≡ values_from true 0 l.tokens

abbrev pub decreases-loop-value : goal.decreases-loop-value
decreases-loop-value l = length l.left
