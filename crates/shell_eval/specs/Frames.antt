-- A place in the evaluation of a tree: what surrounds the current part.
use Rattle.std.specs.Prelude.{◌≡◌, ℕ, suc, List, [], ◌∷◌, length, None}
use Rattle.shell_parse.specs.declared.tree.BinOp.{BinOp}
use Rattle.shell_parse.specs.declared.tree.BinOp.TheVariants as ops
use Rattle.shell_parse.specs.declared.tree.UnOp.{UnOp}
use Rattle.shell_eval.specs.declared.code.LeftSide.{LeftSide}
use Rattle.shell_eval.specs.declared.code.Op.{Op}
use Rattle.shell_eval.specs.declared.code.Op.TheVariants as op
use Rattle.shell_eval.specs.declared.code.Entry.{Entry}
use Rattle.shell_eval.specs.declared.code.Entry.TheVariants as entries
use Rattle.shell_parse.specs.Trees.{PlainTree, Arguments}
use Rattle.shell_eval.specs.Pending.{Pending, Number, Lone, Word, Unary, Binary, SetWord, New, Call, Args, Then, begun, begun_all}
use Rattle.shell_eval.specs.Code.{compiled, compiled_all, count_onto, form_of}

-- what is around the part: an operator before it; an operator whose right side is still to come, or whose left
-- value is known;
-- a form whose right side is still to come; a form whose left side became an entry; a call of it whose arguments
-- are to come;
-- a call of this callee, with these arguments before the part, last one first, and these after it
pub data Frame : Type 0 where
  InWord : Frame
  InUnary : UnOp → Frame
  OnLeft : BinOp → PlainTree → Frame
  OnRight : BinOp → ℕ → Frame
  OnLeftSide : LeftSide → PlainTree → Frame
  Over : Entry → Frame
  AsCallee : Arguments → Frame
  AsArgument : ℕ → List ℕ → Arguments → Frame

-- the form that an entry stands for, with its right side
abbrev pub over : Entry → Pending → Pending
over (entries.Word n) e = e
over entries.Truth e = Binary ops.Ne e (Number 0)
over (entries.Place at) e = SetWord None (Number at) e
over (entries.Mixed o at w) e = SetWord None (Number at) (Binary o (Number w) e)
over (entries.Unknown x) e = New x e

-- values before arguments, last one first
abbrev pub before : List ℕ → Args → Args
before [] es = es
before (v ∷ vs) es = before vs (Then (Number v) es)

-- the tree around a part
abbrev pub plugged : List Frame → Pending → Pending
plugged [] t = t
plugged (InWord ∷ fs) t = plugged fs (Word t)
plugged (InUnary o ∷ fs) t = plugged fs (Unary o t)
plugged (OnLeft o b ∷ fs) t = plugged fs (Binary o t (begun b))
plugged (OnRight o n ∷ fs) t = plugged fs (Binary o (Number n) t)
plugged (OnLeftSide w b ∷ fs) t = plugged fs (form_of w t (begun b))
plugged (Over e ∷ fs) t = plugged fs (over e t)
plugged (AsCallee es ∷ fs) t = plugged fs (Call t (begun_all es))
plugged (AsArgument callee vs es ∷ fs) t = plugged fs (Call (Number callee) (before vs (Then t (begun_all es))))

-- the code that is left once the part is a value
abbrev pub code_after : List Frame → List Op
code_after [] = []
code_after (InWord ∷ fs) = op.Word ∷ code_after fs
code_after (InUnary o ∷ fs) = op.Unary o ∷ code_after fs
code_after (OnLeft o b ∷ fs) = compiled b (op.Binary o ∷ code_after fs)
code_after (OnRight o n ∷ fs) = op.Binary o ∷ code_after fs
code_after (OnLeftSide w b ∷ fs) = op.LeftSide w (length (code_after fs)) ∷ compiled b (op.Close ∷ code_after fs)
code_after (Over e ∷ fs) = op.Close ∷ code_after fs
code_after (AsCallee es ∷ fs) = compiled_all es (op.Call (count_onto es 0) ∷ code_after fs)
code_after (AsArgument callee vs es ∷ fs) = compiled_all es (op.Call (count_onto es (suc (length vs))) ∷ code_after fs)

-- values as entries, put before other entries
abbrev pub words_onto : List ℕ → List Entry → List Entry
words_onto [] st = st
words_onto (v ∷ vs) st = entries.Word v ∷ words_onto vs st

-- the entries below the part
abbrev pub stack_under : List Frame → List Entry
stack_under [] = []
stack_under (InWord ∷ fs) = stack_under fs
stack_under (InUnary o ∷ fs) = stack_under fs
stack_under (OnLeft o b ∷ fs) = stack_under fs
stack_under (OnRight o n ∷ fs) = entries.Word n ∷ stack_under fs
stack_under (OnLeftSide w b ∷ fs) = stack_under fs
stack_under (Over e ∷ fs) = e ∷ stack_under fs
stack_under (AsCallee es ∷ fs) = stack_under fs
stack_under (AsArgument callee vs es ∷ fs) = words_onto vs (entries.Word callee ∷ stack_under fs)

-- the part: a tree whose code is still to run, a name alone, or a value
pub data Part : Type 0 where
  Source : PlainTree → Part
  Alone : List ℕ → Part
  Value : ℕ → Part

-- the code at this part
abbrev pub code_at : Part → List Frame → List Op
code_at (Source t) fs = compiled t (code_after fs)
code_at (Alone x) fs = op.Lone x ∷ code_after fs
code_at (Value n) fs = code_after fs

-- the entries at this part
abbrev pub stack_at : Part → List Frame → List Entry
stack_at (Source t) fs = stack_under fs
stack_at (Alone x) fs = stack_under fs
stack_at (Value n) fs = entries.Word n ∷ stack_under fs

-- the part as a tree
abbrev pub part_tree : Part → Pending
part_tree (Source t) = begun t
part_tree (Alone x) = Lone x
part_tree (Value n) = Number n

-- code and entries are at a place in some tree
pub record Stands (code : List Op) (stack : List Entry) : Type 0 where
  pub part : Part
  pub frames : List Frame
  pub code_is : code ≡ code_at part frames
  pub stack_is : stack ≡ stack_at part frames

-- code and entries await the answer of a call
pub record Awaits (code : List Op) (stack : List Entry) : Type 0 where
  pub frames : List Frame
  pub code_is : code ≡ code_after frames
  pub stack_is : stack ≡ stack_under frames
