-- How trees and statements are stored as ghost values, and read back.
use Rattle.std.specs.Prelude.{◌≡◌, ℕ, zero, suc, List, [], ◌∷◌, Option, Some, None, refl}
use Rattle.std.specs.List.{slice_index_or}
use Rattle.std.proofs.Common.{ap, sym, ◌∙◌}
use denote.Enum.Declared.{tag_of}
use Rattle.shell_parse.specs.contracts.tree.BinOp as between
use Rattle.shell_parse.specs.contracts.tree.UnOp as before
use Rattle.shell_parse.specs.declared.tree.BinOp.{BinOp}
use Rattle.shell_parse.specs.declared.tree.BinOp.TheVariants.{OrElse, AndAlso, Or, Xor, And, Eq, Ne, Lt, Le, Gt, Ge, Shl, Shr, Plus, Minus, Times, Over, Rest}
use Rattle.shell_parse.specs.declared.tree.UnOp.{UnOp}
use Rattle.shell_parse.specs.declared.tree.UnOp.TheVariants.{Neg, Not, Com}
use Rattle.shell_parse.specs.Trees.{PlainTree, Number, Str, Name, Address, Word, Unary, Binary, SetName, SetWord, Call, Arguments, End, Then, PlainStmt, Nothing, Load, Command, Expr}
use base.Stored.{Gv, gnil, gnum, gcons, Coded}

-- the operators, in the order of their numbers
abbrev pub operators : List BinOp
operators = OrElse ∷ AndAlso ∷ Or ∷ Xor ∷ And ∷ Eq ∷ Ne ∷ Lt ∷ Le ∷ Gt ∷ Ge ∷ Shl ∷ Shr ∷ Plus ∷ Minus ∷ Times ∷ Over ∷ Rest ∷ []

-- the number of an operator in that order
abbrev pub op_number : BinOp → ℕ
op_number = tag_of between.the_type

-- the operator with this number
abbrev pub op_of_number : ℕ → BinOp
op_of_number n = slice_index_or operators n Plus

-- the number of an assignment's operator, and back
abbrev pub set_number : Option BinOp → ℕ
set_number None = 0
set_number (Some op) = suc (op_number op)

abbrev pub set_of_number : ℕ → Option BinOp
set_of_number zero = None
set_of_number (suc n) = Some (op_of_number n)

-- the number of an operator before an operand, and back
abbrev pub un_number : UnOp → ℕ
un_number = tag_of before.the_type

abbrev pub un_of_number : ℕ → UnOp
un_of_number zero = Neg
un_of_number (suc zero) = Not
un_of_number (suc (suc n)) = Com

-- bytes as a ghost value
abbrev pub bytes_code : List ℕ → Gv
bytes_code [] = gnil
bytes_code (b ∷ bs) = gcons (gnum b) (bytes_code bs)

-- the bytes that a ghost value stores
abbrev pub bytes_of_code : Gv → List ℕ
bytes_of_code (gcons (gnum b) bs) = b ∷ bytes_of_code bs
bytes_of_code _ = []

-- a tree and arguments as ghost values
abbrev mutual
  pub tree_code : PlainTree → Gv
  tree_code (Number n) = gcons (gnum 0) (gnum n)
  tree_code (Str text) = gcons (gnum 1) (bytes_code text)
  tree_code (Name x) = gcons (gnum 2) (bytes_code x)
  tree_code (Address x) = gcons (gnum 3) (bytes_code x)
  tree_code (Word a) = gcons (gnum 4) (tree_code a)
  tree_code (Unary op a) = gcons (gnum 5) (gcons (gnum (un_number op)) (tree_code a))
  tree_code (Binary op a b) = gcons (gnum 6) (gcons (gnum (op_number op)) (gcons (tree_code a) (tree_code b)))
  tree_code (SetName op x e) = gcons (gnum 7) (gcons (gnum (set_number op)) (gcons (bytes_code x) (tree_code e)))
  tree_code (SetWord op a e) = gcons (gnum 8) (gcons (gnum (set_number op)) (gcons (tree_code a) (tree_code e)))
  tree_code (Call callee es) = gcons (gnum 9) (gcons (tree_code callee) (arguments_code es))

  pub arguments_code : Arguments → Gv
  arguments_code End = gnil
  arguments_code (Then e es) = gcons (tree_code e) (arguments_code es)

-- the tree and the arguments that a ghost value stores
abbrev mutual
  pub tree_of_code : Gv → PlainTree
  tree_of_code (gcons (gnum zero) (gnum n)) = Number n
  tree_of_code (gcons (gnum (suc zero)) text) = Str (bytes_of_code text)
  tree_of_code (gcons (gnum (suc (suc zero))) x) = Name (bytes_of_code x)
  tree_of_code (gcons (gnum (suc (suc (suc zero)))) x) = Address (bytes_of_code x)
  tree_of_code (gcons (gnum (suc (suc (suc (suc zero))))) a) = Word (tree_of_code a)
  tree_of_code (gcons (gnum (suc (suc (suc (suc (suc zero)))))) (gcons (gnum op) a)) = Unary (un_of_number op) (tree_of_code a)
  tree_of_code (gcons (gnum (suc (suc (suc (suc (suc (suc zero))))))) (gcons (gnum op) (gcons a b))) = Binary (op_of_number op) (tree_of_code a) (tree_of_code b)
  tree_of_code (gcons (gnum (suc (suc (suc (suc (suc (suc (suc zero)))))))) (gcons (gnum op) (gcons x e))) = SetName (set_of_number op) (bytes_of_code x) (tree_of_code e)
  tree_of_code (gcons (gnum (suc (suc (suc (suc (suc (suc (suc (suc zero))))))))) (gcons (gnum op) (gcons a e))) = SetWord (set_of_number op) (tree_of_code a) (tree_of_code e)
  tree_of_code (gcons (gnum (suc (suc (suc (suc (suc (suc (suc (suc (suc n)))))))))) (gcons callee es)) = Call (tree_of_code callee) (arguments_of_code es)
  tree_of_code _ = Number 0

  pub arguments_of_code : Gv → Arguments
  arguments_of_code (gcons e es) = Then (tree_of_code e) (arguments_of_code es)
  arguments_of_code _ = End

-- what is stored is read back
pub op_again : (op : BinOp) → op_of_number (op_number op) ≡ op
op_again OrElse = refl
op_again AndAlso = refl
op_again Or = refl
op_again Xor = refl
op_again And = refl
op_again Eq = refl
op_again Ne = refl
op_again Lt = refl
op_again Le = refl
op_again Gt = refl
op_again Ge = refl
op_again Shl = refl
op_again Shr = refl
op_again Plus = refl
op_again Minus = refl
op_again Times = refl
op_again Over = refl
op_again Rest = refl

pub set_again : (op : Option BinOp) → set_of_number (set_number op) ≡ op
set_again None = refl
set_again (Some op) = ap Some (op_again op)

pub un_again : (op : UnOp) → un_of_number (un_number op) ≡ op
un_again Neg = refl
un_again Not = refl
un_again Com = refl

pub bytes_again : (bytes : List ℕ) → bytes_of_code (bytes_code bytes) ≡ bytes
bytes_again [] = refl
bytes_again (b ∷ bs) = ap (λ cs. b ∷ cs) (bytes_again bs)

mutual
  pub tree_again : (t : PlainTree) → tree_of_code (tree_code t) ≡ t
  tree_again (Number n) = refl
  tree_again (Str text) = ap Str (bytes_again text)
  tree_again (Name x) = ap Name (bytes_again x)
  tree_again (Address x) = ap Address (bytes_again x)
  tree_again (Word a) = ap Word (tree_again a)
  tree_again (Unary op a) = λ i. Unary (un_again op i) (tree_again a i)
  tree_again (Binary op a b) = λ i. Binary (op_again op i) (tree_again a i) (tree_again b i)
  tree_again (SetName op x e) = λ i. SetName (set_again op i) (bytes_again x i) (tree_again e i)
  tree_again (SetWord op a e) = λ i. SetWord (set_again op i) (tree_again a i) (tree_again e i)
  tree_again (Call callee es) = λ i. Call (tree_again callee i) (arguments_again es i)

  pub arguments_again : (es : Arguments) → arguments_of_code (arguments_code es) ≡ es
  arguments_again End = refl
  arguments_again (Then e es) = λ i. Then (tree_again e i) (arguments_again es i)

-- the code of trees
abbrev pub coded_tree : Coded PlainTree
coded_tree = record { code = tree_code; inj = λ x y p. sym (tree_again x) ∙ ap tree_of_code p ∙ tree_again y }

-- a statement as a ghost value
abbrev pub stmt_code : PlainStmt → Gv
stmt_code Nothing = gnil
stmt_code (Command callee es) = gcons (gnum 0) (gcons (bytes_code callee) (arguments_code es))
stmt_code (Load file) = gcons (gnum 1) (bytes_code file)
stmt_code (Expr t) = gcons (gnum 2) (tree_code t)

-- the statement that a ghost value stores
abbrev pub stmt_of_code : Gv → PlainStmt
stmt_of_code (gcons (gnum zero) (gcons callee es)) = Command (bytes_of_code callee) (arguments_of_code es)
stmt_of_code (gcons (gnum (suc zero)) file) = Load (bytes_of_code file)
stmt_of_code (gcons (gnum (suc (suc n))) t) = Expr (tree_of_code t)
stmt_of_code _ = Nothing

pub stmt_again : (s : PlainStmt) → stmt_of_code (stmt_code s) ≡ s
stmt_again Nothing = refl
stmt_again (Load file) = ap Load (bytes_again file)
stmt_again (Command callee es) = λ i. Command (bytes_again callee i) (arguments_again es i)
stmt_again (Expr t) = ap Expr (tree_again t)

-- the code of statements
abbrev pub coded_stmt : Coded PlainStmt
coded_stmt = record { code = stmt_code; inj = λ x y p. sym (stmt_again x) ∙ ap stmt_of_code p ∙ stmt_again y }
