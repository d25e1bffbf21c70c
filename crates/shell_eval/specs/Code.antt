-- Postfix code: what a tree is as code, and what code and entries are as a tree.
use Rattle.std.specs.Prelude.{ℕ, zero, suc, List, [], ◌∷◌, length, Option, Some, None, codes}
use Rattle.shell_parse.specs.declared.tree.BinOp.{BinOp}
use Rattle.shell_parse.specs.declared.tree.BinOp.TheVariants as ops
use Rattle.shell_eval.specs.declared.code.LeftSide.{LeftSide}
use Rattle.shell_eval.specs.declared.code.LeftSide.TheVariants as sides
use Rattle.shell_eval.specs.declared.code.Op.{Op}
use Rattle.shell_eval.specs.declared.code.Op.TheVariants as op
use Rattle.shell_eval.specs.declared.code.Entry.{Entry}
use Rattle.shell_eval.specs.declared.code.Entry.TheVariants as entries
use Rattle.shell_parse.specs.Trees as trees
use Rattle.shell_parse.specs.Trees.{PlainTree, Arguments, PlainStmt}
use Rattle.shell_eval.specs.Pending.{Pending, Number, Str, Name, Lone, Address, Word, Unary, Binary, Choice, SetName, SetWord, New, Call, Args, End, Then, Logic, All, Any, logic_of}

-- how the left side of `&&` or `||` acts
abbrev pub side_of : Logic → LeftSide
side_of All = sides.All
side_of Any = sides.Any

-- how many arguments there are, counted from m
abbrev pub count_onto : Arguments → ℕ → ℕ
count_onto trees.End m = m
count_onto (trees.Then e es) m = count_onto es (suc m)

-- the code after the left operand
abbrev pub after_left : Option Logic → BinOp → (List Op → List Op) → List Op → List Op
after_left None o right k = right (op.Binary o ∷ k)
after_left (Some w) o right k = op.LeftSide (side_of w) (length k) ∷ right (op.Close ∷ k)

-- the code of a tree, followed by this code
abbrev mutual
  pub compiled : PlainTree → List Op → List Op
  compiled (trees.Number n) k = op.Push n ∷ k
  compiled (trees.Str b) k = op.Str b ∷ k
  compiled (trees.Name x) k = op.Name x ∷ k
  compiled (trees.Address x) k = op.Address x ∷ k
  compiled (trees.Word a) k = compiled a (op.Word ∷ k)
  compiled (trees.Unary o a) k = compiled a (op.Unary o ∷ k)
  compiled (trees.Binary o a b) k = compiled a (after_left (logic_of o) o (compiled b) k)
  compiled (trees.SetName aop x e) k = op.Left aop x ∷ compiled e (op.Close ∷ k)
  compiled (trees.SetWord aop a e) k = compiled a (op.LeftSide (sides.Place aop) (length k) ∷ compiled e (op.Close ∷ k))
  compiled (trees.Call f es) k = compiled f (compiled_all es (op.Call (count_onto es 0) ∷ k))

  pub compiled_all : Arguments → List Op → List Op
  compiled_all trees.End k = k
  compiled_all (trees.Then e es) k = compiled e (compiled_all es k)

-- the code of an expression that is a statement
abbrev pub compiled_expr : PlainTree → List Op
compiled_expr (trees.Name x) = op.Lone x ∷ []
compiled_expr t = compiled t []

-- the code of a statement
abbrev pub compiled_stmt : PlainStmt → List Op
compiled_stmt trees.Nothing = op.Push 0 ∷ []
compiled_stmt (trees.Load file) = op.Name (codes "ld") ∷ op.Push 0 ∷ op.Push 0 ∷ op.Str file ∷ op.Call 3 ∷ []
compiled_stmt (trees.Command x es) = op.Name x ∷ compiled_all es (op.Call (count_onto es 0) ∷ [])
compiled_stmt (trees.Expr t) = compiled_expr t

-- an entry, seen as a tree: a whole tree, or a form without its right side
pub data Item : Type 0 where
  Whole : Pending → Item
  Left : (Pending → Pending) → Item

-- an entry as an item
abbrev pub item_of : Entry → Item
item_of (entries.Word n) = Whole (Number n)
item_of entries.Truth = Left (λ e. Binary ops.Ne e (Number 0))
item_of (entries.Place at) = Left (SetWord None (Number at))
item_of (entries.Mixed o at w) = Left (λ e. SetWord None (Number at) (Binary o (Number w) e))
item_of (entries.Unknown x) = Left (New x)

-- entries as items
abbrev pub items_of : List Entry → List Item
items_of [] = []
items_of (e ∷ es) = item_of e ∷ items_of es

-- the form that a left side begins
abbrev pub form_of : LeftSide → Pending → Pending → Pending
form_of sides.All a b = Choice All a b
form_of sides.Any a b = Choice Any a b
form_of (sides.Place aop) a b = SetWord aop a b

-- the tree on top, put into a form
abbrev pub on_one : (Pending → Pending) → List Item → List Item
on_one f (Whole a ∷ st) = Whole (f a) ∷ st
on_one f st = st

-- the two trees on top, put into a form
abbrev pub on_two : (Pending → Pending → Pending) → List Item → List Item
on_two f (Whole b ∷ Whole a ∷ st) = Whole (f a b) ∷ st
on_two f st = st

-- the tree on top becomes a left side
abbrev pub on_left : LeftSide → List Item → List Item
on_left w (Whole a ∷ st) = Left (form_of w a) ∷ st
on_left w st = st

-- the tree on top becomes the right side of the form below, or replaces the tree below
abbrev pub on_right : List Item → List Item
on_right (Whole e ∷ Left f ∷ st) = Whole (f e) ∷ st
on_right (Whole e ∷ Whole n ∷ st) = Whole e ∷ st
on_right st = st

-- a call of the tree below the top n trees, with them before these arguments
abbrev pub gathered : ℕ → List Item → Args → List Item
gathered zero (Whole f ∷ st) es = Whole (Call f es) ∷ st
gathered (suc n) (Whole e ∷ st) es = gathered n st (Then e es)
gathered n st es = st

-- the tree that the code makes of these items
abbrev pub shown : List Op → List Item → Pending
shown [] (Whole t ∷ st) = t
shown [] st = Number 0
shown (op.Push n ∷ c) st = shown c (Whole (Number n) ∷ st)
shown (op.Str b ∷ c) st = shown c (Whole (Str b) ∷ st)
shown (op.Name x ∷ c) st = shown c (Whole (Name x) ∷ st)
shown (op.Lone x ∷ c) st = shown c (Whole (Lone x) ∷ st)
shown (op.Address x ∷ c) st = shown c (Whole (Address x) ∷ st)
shown (op.Word ∷ c) st = shown c (on_one Word st)
shown (op.Unary o ∷ c) st = shown c (on_one (Unary o) st)
shown (op.Binary o ∷ c) st = shown c (on_two (Binary o) st)
shown (op.LeftSide w keep ∷ c) st = shown c (on_left w st)
shown (op.Left aop x ∷ c) st = shown c (Left (SetName aop x) ∷ st)
shown (op.Close ∷ c) st = shown c (on_right st)
shown (op.Call n ∷ c) st = shown c (gathered n st End)
