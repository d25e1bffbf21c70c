-- Code and entries show the tree around the part where they are.
use Rattle.std.proofs.Common.{◌≡◌, ℕ, suc, List, [], ◌∷◌, length, Option, Some, None, refl, ap, ◌∙◌}
use Rattle.shell_parse.specs.declared.tree.BinOp.{BinOp}
use Rattle.shell_eval.specs.declared.code.LeftSide.TheVariants as sides
use Rattle.shell_eval.specs.declared.code.Op.{Op}
use Rattle.shell_eval.specs.declared.code.Op.TheVariants as op
use Rattle.shell_eval.specs.declared.code.Entry.{Entry}
use Rattle.shell_eval.specs.declared.code.Entry.TheVariants as entries
use Rattle.shell_parse.specs.Trees as trees
use Rattle.shell_parse.specs.Trees.{PlainTree, Arguments}
use Rattle.shell_eval.specs.Pending.{Pending, Number, Lone, Word, Unary, Binary, Choice, SetName, SetWord, Call, Args, End, Then, Logic, All, Any, logic_of, two_sided, begun, begun_all}
use Rattle.shell_eval.specs.Code.{compiled, compiled_all, count_onto, form_of, after_left, Item, Whole, Left, item_of, items_of, shown, gathered, on_right}
use Rattle.shell_eval.specs.Frames.{Frame, InWord, InUnary, OnLeft, OnRight, OnLeftSide, Over, AsCallee, AsArgument, Part, Source, Alone, Value, over, before, plugged, code_after, stack_under, words_onto, code_at, stack_at, part_tree}

-- arguments before others
abbrev joined : Args → Args → Args
joined End ds = ds
joined (Then e es) ds = Then e (joined es ds)

joined_end : (es : Args) → joined es End ≡ es
joined_end End = refl
joined_end (Then e es) = ap (Then e) (joined_end es)

-- arguments as items, the last on top
abbrev onto : Arguments → List Item → List Item
onto trees.End st = st
onto (trees.Then e es) st = onto es (Whole (begun e) ∷ st)

gathers : (es : Arguments) (m : ℕ) (st : List Item) (ds : Args) → gathered (count_onto es m) (onto es st) ds ≡ gathered m st (joined (begun_all es) ds)
gathers trees.End m st ds = refl
gathers (trees.Then e es) m st ds = gathers es (suc m) (Whole (begun e) ∷ st) ds

-- the code after the left operand makes the form of both
shows_two : (l : Option Logic) (o : BinOp) (right : List Op → List Op) (k : List Op) (a b : Pending) (st : List Item) →
    ((c : List Op) (ts : List Item) → shown (right c) ts ≡ shown c (Whole b ∷ ts)) → shown (after_left l o right k) (Whole a ∷ st) ≡ shown k (Whole (two_sided l o a b) ∷ st)
shows_two None o right k a b st h = h (op.Binary o ∷ k) (Whole a ∷ st)
shows_two (Some All) o right k a b st h = h (op.Close ∷ k) (Left (Choice All a) ∷ st)
shows_two (Some Any) o right k a b st h = h (op.Close ∷ k) (Left (Choice Any a) ∷ st)

mutual
  pub shows : (t : PlainTree) (k : List Op) (st : List Item) → shown (compiled t k) st ≡ shown k (Whole (begun t) ∷ st)
  shows (trees.Number n) k st = refl
  shows (trees.Str b) k st = refl
  shows (trees.Name x) k st = refl
  shows (trees.Address x) k st = refl
  shows (trees.Word a) k st = shows a (op.Word ∷ k) st
  shows (trees.Unary o a) k st = shows a (op.Unary o ∷ k) st
  shows (trees.Binary o a b) k st =
      shows a (after_left (logic_of o) o (compiled b) k) st
      ∙ shows_two (logic_of o) o (compiled b) k (begun a) (begun b) st (λ c ts. shows b c ts)
  shows (trees.SetName aop x e) k st = shows e (op.Close ∷ k) (Left (SetName aop x) ∷ st)
  shows (trees.SetWord aop a e) k st =
      shows a (op.LeftSide (sides.Place aop) (length k) ∷ compiled e (op.Close ∷ k)) st ∙ shows e (op.Close ∷ k) (Left (SetWord aop (begun a)) ∷ st)
  shows (trees.Call f es) k st =
      shows f (compiled_all es (op.Call (count_onto es 0) ∷ k)) st
      ∙ (shows_all es (op.Call (count_onto es 0) ∷ k) (Whole (begun f) ∷ st)
      ∙ ap (shown k) (gathers es 0 (Whole (begun f) ∷ st) End ∙ ap (λ ds. Whole (Call (begun f) ds) ∷ st) (joined_end (begun_all es))))

  pub shows_all : (es : Arguments) (k : List Op) (st : List Item) → shown (compiled_all es k) st ≡ shown k (onto es st)
  shows_all trees.End k st = refl
  shows_all (trees.Then e es) k st = shows e (compiled_all es k) st ∙ shows_all es k (Whole (begun e) ∷ st)

closes : (e : Entry) (t : Pending) (st : List Item) → on_right (Whole t ∷ item_of e ∷ st) ≡ Whole (over e t) ∷ st
closes (entries.Word n) t st = refl
closes entries.Truth t st = refl
closes (entries.Place at) t st = refl
closes (entries.Mixed o at w) t st = refl
closes (entries.Unknown x) t st = refl

gathers_values : (vs : List ℕ) (callee : ℕ) (st : List Entry) (es : Args) →
    gathered (length vs) (items_of (words_onto vs (entries.Word callee ∷ st))) es ≡ Whole (Call (Number callee) (before vs es)) ∷ items_of st
gathers_values [] callee st es = refl
gathers_values (v ∷ vs) callee st es = gathers_values vs callee st (Then (Number v) es)

pub shows_part : (fs : List Frame) (t : Pending) → shown (code_after fs) (Whole t ∷ items_of (stack_under fs)) ≡ plugged fs t
shows_part [] t = refl
shows_part (InWord ∷ fs) t = shows_part fs (Word t)
shows_part (InUnary o ∷ fs) t = shows_part fs (Unary o t)
shows_part (OnLeft o b ∷ fs) t = shows b (op.Binary o ∷ code_after fs) (Whole t ∷ items_of (stack_under fs)) ∙ shows_part fs (Binary o t (begun b))
shows_part (OnRight o n ∷ fs) t = shows_part fs (Binary o (Number n) t)
shows_part (OnLeftSide w b ∷ fs) t = shows b (op.Close ∷ code_after fs) (Left (form_of w t) ∷ items_of (stack_under fs)) ∙ shows_part fs (form_of w t (begun b))
shows_part (Over e ∷ fs) t = ap (shown (code_after fs)) (closes e t (items_of (stack_under fs))) ∙ shows_part fs (over e t)
shows_part (AsCallee es ∷ fs) t =
    shows_all es (op.Call (count_onto es 0) ∷ code_after fs) (Whole t ∷ items_of (stack_under fs))
    ∙ (ap (shown (code_after fs)) (gathers es 0 (Whole t ∷ items_of (stack_under fs)) End ∙ ap (λ ds. Whole (Call t ds) ∷ items_of (stack_under fs)) (joined_end (begun_all es)))
    ∙ shows_part fs (Call t (begun_all es)))
shows_part (AsArgument callee vs es ∷ fs) t =
    let st : List Item = Whole t ∷ items_of (words_onto vs (entries.Word callee ∷ stack_under fs)) in
    shows_all es (op.Call (count_onto es (suc (length vs))) ∷ code_after fs) st
    ∙ (ap (shown (code_after fs))
    (gathers es (suc (length vs)) st End
    ∙ (ap (λ ds. gathered (suc (length vs)) st ds) (joined_end (begun_all es))
    ∙ gathers_values vs callee (stack_under fs) (Then t (begun_all es))))
    ∙ shows_part fs (Call (Number callee) (before vs (Then t (begun_all es)))))

-- code and entries at a part
pub shows_at : (p : Part) (fs : List Frame) → shown (code_at p fs) (items_of (stack_at p fs)) ≡ plugged fs (part_tree p)
shows_at (Source t) fs = shows t (code_after fs) (items_of (stack_under fs)) ∙ shows_part fs (begun t)
shows_at (Alone x) fs = shows_part fs (Lone x)
shows_at (Value n) fs = shows_part fs (Number n)
