-- The tree under evaluation: the statement's tree, and what reduction makes of it.
use Rattle.std.specs.Prelude.{ℕ, ◌+◌, List, Option, Some, None, codes}
use Rattle.shell_parse.specs.declared.tree.BinOp.{BinOp}
use Rattle.shell_parse.specs.declared.tree.BinOp.TheVariants as ops
use Rattle.shell_parse.specs.declared.tree.UnOp.{UnOp}
use Rattle.shell_parse.specs.Trees as trees
use Rattle.shell_parse.specs.Trees.{PlainTree, Arguments, PlainStmt}

-- `&&` wants all of its sides, `||` any
pub data Logic : Type 0 where
  All : Logic
  Any : Logic

-- A number is a value. `Choice` is `&&` or `||`. `Lone` is a name that is a statement by itself.
-- `New` is an assignment to a name that turned out to be unknown. `Hole` awaits the answer of a call.
mutual
  pub data Pending : Type 0 where
    Number : ℕ → Pending
    Str : List ℕ → Pending
    Name : List ℕ → Pending
    Lone : List ℕ → Pending
    Address : List ℕ → Pending
    Word : Pending → Pending
    Unary : UnOp → Pending → Pending
    Binary : BinOp → Pending → Pending → Pending
    Choice : Logic → Pending → Pending → Pending
    SetName : Option BinOp → List ℕ → Pending → Pending
    SetWord : Option BinOp → Pending → Pending → Pending
    New : List ℕ → Pending → Pending
    Call : Pending → Args → Pending
    Hole : Pending

  pub data Args : Type 0 where
    End : Args
    Then : Pending → Args → Args

-- whether an operator skips its right side if the left side decides
abbrev pub logic_of : BinOp → Option Logic
logic_of ops.OrElse = Some Any
logic_of ops.AndAlso = Some All
logic_of _ = None

-- an operator with two operands
abbrev pub two_sided : Option Logic → BinOp → Pending → Pending → Pending
two_sided None op a b = Binary op a b
two_sided (Some w) op a b = Choice w a b

-- a tree of the grammar, before anything is evaluated
abbrev mutual
  pub begun : PlainTree → Pending
  begun (trees.Number n) = Number n
  begun (trees.Str b) = Str b
  begun (trees.Name x) = Name x
  begun (trees.Address x) = Address x
  begun (trees.Word a) = Word (begun a)
  begun (trees.Unary op a) = Unary op (begun a)
  begun (trees.Binary op a b) = two_sided (logic_of op) op (begun a) (begun b)
  begun (trees.SetName aop x e) = SetName aop x (begun e)
  begun (trees.SetWord aop a e) = SetWord aop (begun a) (begun e)
  begun (trees.Call f es) = Call (begun f) (begun_all es)

  pub begun_all : Arguments → Args
  begun_all trees.End = End
  begun_all (trees.Then e es) = Then (begun e) (begun_all es)

-- an expression that is a statement: a name alone may be a call
abbrev pub begun_expr : PlainTree → Pending
begun_expr (trees.Name x) = Lone x
begun_expr t = begun t

-- a statement, before anything is evaluated: `ld < file` is the call `ld (0, 0, "file")`, and one without tokens is 0
abbrev pub begun_stmt : PlainStmt → Pending
begun_stmt trees.Nothing = Number 0
begun_stmt (trees.Load file) = Call (Name (codes "ld")) (Then (Number 0) (Then (Number 0) (Then (Str file) End)))
begun_stmt (trees.Command x es) = Call (Name x) (begun_all es)
begun_stmt (trees.Expr t) = begun_expr t

-- the tree with a call's answer in its place
abbrev mutual
  pub filled : ℕ → Pending → Pending
  filled v (Number n) = Number n
  filled v (Str b) = Str b
  filled v (Name x) = Name x
  filled v (Lone x) = Lone x
  filled v (Address x) = Address x
  filled v (Word a) = Word (filled v a)
  filled v (Unary op a) = Unary op (filled v a)
  filled v (Binary op a b) = Binary op (filled v a) (filled v b)
  filled v (Choice w a b) = Choice w (filled v a) (filled v b)
  filled v (SetName aop x e) = SetName aop x (filled v e)
  filled v (SetWord aop a e) = SetWord aop (filled v a) (filled v e)
  filled v (New x e) = New x (filled v e)
  filled v (Call f es) = Call (filled v f) (filled_all v es)
  filled v Hole = Number v

  pub filled_all : ℕ → Args → Args
  filled_all v End = End
  filled_all v (Then e es) = Then (filled v e) (filled_all v es)

-- the most reductions that a tree can still take
abbrev mutual
  pub weight : Pending → ℕ
  weight (Number n) = 0
  weight (Str b) = 1
  weight (Name x) = 1
  weight (Lone x) = 2
  weight (Address x) = 1
  weight (Word a) = weight a + 1
  weight (Unary op a) = weight a + 1
  weight (Binary op a b) = weight a + weight b + 1
  weight (Choice w a b) = weight a + weight b + 2
  weight (SetName aop x e) = weight e + 3
  weight (SetWord None a e) = weight a + weight e + 1
  weight (SetWord (Some op) a e) = weight a + weight e + 3
  weight (New x e) = weight e + 1
  weight (Call f es) = weight f + weight_all es + 1
  weight Hole = 0

  pub weight_all : Args → ℕ
  weight_all End = 0
  weight_all (Then e es) = weight e + weight_all es

-- a count over a tree: that of a hole, and what each assignment that makes a variable of this name adds
abbrev mutual
  pub counted : ℕ → (List ℕ → ℕ → ℕ) → Pending → ℕ
  counted hole made (Number n) = 0
  counted hole made (Str b) = 0
  counted hole made (Name x) = 0
  counted hole made (Lone x) = 0
  counted hole made (Address x) = 0
  counted hole made (Word a) = counted hole made a
  counted hole made (Unary op a) = counted hole made a
  counted hole made (Binary op a b) = counted hole made a + counted hole made b
  counted hole made (Choice w a b) = counted hole made a + counted hole made b
  counted hole made (SetName None x e) = made x (counted hole made e)
  counted hole made (SetName (Some op) x e) = counted hole made e
  counted hole made (SetWord aop a e) = counted hole made a + counted hole made e
  counted hole made (New x e) = made x (counted hole made e)
  counted hole made (Call f es) = counted hole made f + counted_all hole made es
  counted hole made Hole = hole

  pub counted_all : ℕ → (List ℕ → ℕ → ℕ) → Args → ℕ
  counted_all hole made End = 0
  counted_all hole made (Then e es) = counted hole made e + counted_all hole made es
