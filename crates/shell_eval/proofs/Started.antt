-- The code of a statement is at its beginning.
use Rattle.std.proofs.Common.{◌≡◌, ℕ, List, [], ◌∷◌, refl, ◌∙◌}
use Rattle.std.specs.Prelude.{codes}
use Rattle.shell_eval.specs.declared.code.Entry.{Entry}
use Rattle.shell_eval.specs.declared.code.Entry.TheVariants as entries
use Rattle.shell_parse.specs.Trees as trees
use Rattle.shell_parse.specs.Trees.{PlainTree, PlainStmt}
use Rattle.shell_eval.specs.Pending.{begun_expr, begun_stmt}
use Rattle.shell_eval.specs.Code.{compiled_expr, compiled_stmt}
use Rattle.shell_eval.specs.Frames.{Part, Source, Alone, Value, part_tree, code_at, stack_at, Stands}
use Rattle.shell_eval.specs.Follows.{tree_of}
use Rattle.shell_eval.proofs.Steps.{tree_at}

-- the part that an expression, or a statement, is at its beginning
abbrev first_of_expr : PlainTree → Part
first_of_expr (trees.Name x) = Alone x
first_of_expr t = Source t

abbrev first_of : PlainStmt → Part
first_of trees.Nothing = Source (trees.Number 0)
first_of (trees.Load file) = Source (trees.Call (trees.Name (codes "ld")) (trees.Then (trees.Number 0) (trees.Then (trees.Number 0) (trees.Then (trees.Str file) trees.End))))
first_of (trees.Command x es) = Source (trees.Call (trees.Name x) es)
first_of (trees.Expr t) = first_of_expr t

expr_code : (t : PlainTree) → compiled_expr t ≡ code_at (first_of_expr t) []
expr_code (trees.Name x) = refl
expr_code t = refl

first_code : (s : PlainStmt) → compiled_stmt s ≡ code_at (first_of s) []
first_code trees.Nothing = refl
first_code (trees.Load file) = refl
first_code (trees.Command x es) = refl
first_code (trees.Expr t) = expr_code t

expr_stack : (t : PlainTree) → ◌≡◌ {A = List Entry} [] (stack_at (first_of_expr t) [])
expr_stack (trees.Name x) = refl
expr_stack t = refl

first_stack : (s : PlainStmt) → ◌≡◌ {A = List Entry} [] (stack_at (first_of s) [])
first_stack trees.Nothing = refl
first_stack (trees.Load file) = refl
first_stack (trees.Command x es) = refl
first_stack (trees.Expr t) = expr_stack t

expr_tree : (t : PlainTree) → part_tree (first_of_expr t) ≡ begun_expr t
expr_tree (trees.Name x) = refl
expr_tree t = refl

first_tree : (s : PlainStmt) → part_tree (first_of s) ≡ begun_stmt s
first_tree trees.Nothing = refl
first_tree (trees.Load file) = refl
first_tree (trees.Command x es) = refl
first_tree (trees.Expr t) = expr_tree t

-- the code of a statement is at its beginning
pub begins : (s : PlainStmt) → Stands (compiled_stmt s) []
begins s = record { part = first_of s; frames = []; code_is = first_code s; stack_is = first_stack s }

-- and shows the statement
pub shows_begun : (s : PlainStmt) → tree_of (compiled_stmt s) [] ≡ begun_stmt s
shows_begun s = (λ i. tree_of (first_code s i) (first_stack s i)) ∙ (tree_at (first_of s) [] ∙ first_tree s)

-- a value is at its place
pub stands_value : (n : ℕ) → Stands [] (entries.Word n ∷ [])
stands_value n = record { part = Value n; frames = []; code_is = refl; stack_is = refl }
