-- Trees and statements as plain data, independent of where they are in memory.
use Rattle.std.specs.Prelude.{ℕ, List, [], ◌∷◌, Option, map}
use Rattle.shell_parse.specs.declared.tree.BinOp.{BinOp}
use Rattle.shell_parse.specs.declared.tree.UnOp.{UnOp}
use Rattle.shell_parse.specs.declared.tree.Tree.{Tree, fold-Tree}
use Rattle.shell_parse.specs.declared.tree.Tree.TheOpen.{Tree-F}
use Rattle.shell_parse.specs.declared.tree.Stmt.{Stmt}
use Rattle.shell_parse.specs.declared.tree.Stmt.TheVariants as stmts

-- an expression, and the arguments of a call in their order
mutual
  pub data PlainTree : Type 0 where
    Number : ℕ → PlainTree
    Str : List ℕ → PlainTree
    Name : List ℕ → PlainTree
    Address : List ℕ → PlainTree
    Word : PlainTree → PlainTree
    Unary : UnOp → PlainTree → PlainTree
    Binary : BinOp → PlainTree → PlainTree → PlainTree
    SetName : Option BinOp → List ℕ → PlainTree → PlainTree
    SetWord : Option BinOp → PlainTree → PlainTree → PlainTree
    Call : PlainTree → Arguments → PlainTree

  pub data Arguments : Type 0 where
    End : Arguments
    Then : PlainTree → Arguments → Arguments

-- arguments from a list
abbrev pub arguments_of : List PlainTree → Arguments
arguments_of [] = End
arguments_of (e ∷ es) = Then e (arguments_of es)

-- one level of a tree, with each of its parts already as plain data
abbrev pub plain_level : Tree-F PlainTree → PlainTree
plain_level (Tree-F.Number n) = Number n
plain_level (Tree-F.Str text) = Str text.items
plain_level (Tree-F.Name x) = Name x
plain_level (Tree-F.Address x) = Address x
plain_level (Tree-F.Word a) = Word a.value
plain_level (Tree-F.Unary op a) = Unary op a.value
plain_level (Tree-F.Binary op a b) = Binary op a.value b.value
plain_level (Tree-F.SetName op x e) = SetName op x e.value
plain_level (Tree-F.SetWord op a e) = SetWord op a.value e.value
plain_level (Tree-F.Call callee es) = Call callee.value (arguments_of es.items)

-- a tree as plain data
abbrev pub plain_tree : Tree → PlainTree
plain_tree = fold-Tree PlainTree plain_level

-- the arguments of a call as plain data
abbrev pub plain_arguments : List Tree → Arguments
plain_arguments trees = arguments_of (map plain_tree trees)

-- a statement: a load is `ld < file`, a command is a call without parentheses
pub data PlainStmt : Type 0 where
  Nothing : PlainStmt
  Load : List ℕ → PlainStmt
  Command : List ℕ → Arguments → PlainStmt
  Expr : PlainTree → PlainStmt

-- a statement as plain data
abbrev pub plain_stmt : Stmt → PlainStmt
plain_stmt stmts.Nothing = Nothing
plain_stmt (stmts.Ld file) = Load file.items
plain_stmt (stmts.Call callee arguments) = Command callee (plain_arguments arguments.items)
plain_stmt (stmts.Expr t) = Expr (plain_tree t)

-- the statements of a line as plain data
abbrev pub plain_stmts : List Stmt → List PlainStmt
plain_stmts stmts = map plain_stmt stmts
