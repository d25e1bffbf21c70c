-- What an operation does, in terms of evaluation.
use Rattle.std.specs.Prelude.{◌≡◌, ℕ, List, ◌∷◌}
use Rattle.shell_eval.specs.declared.code.Op.{Op}
use Rattle.shell_eval.specs.declared.code.Entry.{Entry}
use Rattle.shell_eval.specs.State.{State}
use Rattle.shell_eval.specs.Pending.{Pending, Hole}
use Rattle.shell_eval.specs.Evaluate.{Value, Call, Fault, ended, evaluate}
use Rattle.shell_eval.specs.Code.{Whole, items_of, shown}
use Rattle.shell_eval.specs.Machine.{Moved, Ends, Goes, Makes, Stops}
use Rattle.shell_eval.specs.Frames.{Stands, Awaits}

-- the tree of code and entries
unfoldable pub tree_of : List Op → List Entry → Pending
tree_of c st = shown c (items_of st)

-- the same with a hole on top, for the answer of a call
unfoldable pub tree_with_hole : List Op → List Entry → Pending
tree_with_hole c st = shown c (Whole Hole ∷ items_of st)

-- the code and the entries are still at a place in a tree, whose evaluation is that of the tree before
pub record Goes_on (s : State) (p : Pending) (t : State) (c : List Op) (st : List Entry) : Type 0 where
  pub stands : Stands c st
  pub same : evaluate s p ≡ evaluate t (tree_of c st)

-- the due call, and what is left awaits its answer
pub record Comes_to_call (s : State) (p : Pending) (t : State) (f : ℕ) (vs : List ℕ) (c : List Op) (st : List Entry) : Type 0 where
  pub awaits : Awaits c st
  pub same : evaluate s p ≡ ended t (Call f vs (tree_with_hole c st))

-- what an operation does with code and entries is what evaluation does with their tree
abbrev pub Follows : State → Pending → Moved → Type 0
Follows s p (Ends t n) = evaluate s p ≡ ended t (Value n)
Follows s p (Goes t c st) = Goes_on s p t c st
Follows s p (Makes t f vs c st) = Comes_to_call s p t f vs c st
Follows s p (Stops t f) = evaluate s p ≡ ended t (Fault f)
