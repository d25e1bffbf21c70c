-- How many arguments there are.
use Rattle.std.proofs.Common.{◌≡◌, ℕ, suc, ◌+◌, List, [], ◌∷◌, length, ◌∙◌, arith}
use Rattle.shell_parse.specs.declared.tree.Tree.{Tree}
use Rattle.shell_parse.specs.Trees.{plain_arguments}
use Rattle.shell_eval.specs.Code.{count_onto}

counts_onto : (xs : List Tree) (m : ℕ) → count_onto (plain_arguments xs) m ≡ m + length xs
counts_onto [] m = omega arith
counts_onto (x ∷ xs) m = counts_onto xs (suc m) ∙ (omega arith)

pub counts : (xs : List Tree) → count_onto (plain_arguments xs) 0 ≡ length xs
counts xs = counts_onto xs 0 ∙ (omega arith)
