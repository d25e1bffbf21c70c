-- A call's answer fills the one hole.
use Rattle.std.proofs.Common.{◌≡◌, ℕ, ◌+◌, List, [], ◌∷◌, Option, Some, None, refl, ap, ◌∙◌, arith}
use Rattle.shell_parse.specs.declared.tree.BinOp.{BinOp}
use Rattle.shell_eval.specs.declared.code.LeftSide.{LeftSide}
use Rattle.shell_eval.specs.declared.code.LeftSide.TheVariants as sides
use Rattle.shell_eval.specs.declared.code.Entry.{Entry}
use Rattle.shell_eval.specs.declared.code.Entry.TheVariants as entries
use Rattle.shell_parse.specs.Trees as trees
use Rattle.shell_parse.specs.Trees.{PlainTree, Arguments}
use Rattle.shell_eval.specs.Pending.{Pending, Number, Word, Unary, Binary, SetName, SetWord, Call, Args, Then, Logic, logic_of, two_sided, begun, begun_all, begun_expr, filled, filled_all}
use Rattle.shell_eval.specs.Laws.{holes, holes_all, BegunLaw}
use Rattle.shell_eval.specs.Code.{form_of}
use Rattle.shell_eval.specs.Frames.{Frame, InWord, InUnary, OnLeft, OnRight, OnLeftSide, Over, AsCallee, AsArgument, over, before, plugged}

-- an assignment to a name has the holes of its right side
pub holes_set : (aop : Option BinOp) (x : List ℕ) (e : Pending) → holes (SetName aop x e) ≡ holes e
holes_set None x e = refl
holes_set (Some op) x e = refl

-- a tree of the grammar has no hole
holes_two : (l : Option Logic) (o : BinOp) (a b : Pending) → holes (two_sided l o a b) ≡ holes a + holes b
holes_two None o a b = refl
holes_two (Some w) o a b = refl

mutual
  pub no_hole : (t : PlainTree) → holes (begun t) ≡ 0
  no_hole (trees.Number n) = refl
  no_hole (trees.Str b) = refl
  no_hole (trees.Name x) = refl
  no_hole (trees.Address x) = refl
  no_hole (trees.Word a) = no_hole a
  no_hole (trees.Unary o a) = no_hole a
  no_hole (trees.Binary o a b) =
      let p = holes_two (logic_of o) o (begun a) (begun b) in let q = no_hole a in let r = no_hole b in omega (arith, p, q, r)
  no_hole (trees.SetName aop x e) = holes_set aop x (begun e) ∙ no_hole e
  no_hole (trees.SetWord aop a e) = let q = no_hole a in let r = no_hole e in omega (arith, q, r)
  no_hole (trees.Call f es) = let q = no_hole f in let r = no_holes es in omega (arith, q, r)

  no_holes : (es : Arguments) → holes_all (begun_all es) ≡ 0
  no_holes trees.End = refl
  no_holes (trees.Then e es) = let q = no_hole e in let r = no_holes es in omega (arith, q, r)

-- around a part there is no other hole
holes_before : (vs : List ℕ) (es : Args) → holes_all (before vs es) ≡ holes_all es
holes_before [] es = refl
holes_before (v ∷ vs) es = holes_before vs (Then (Number v) es) ∙ (omega arith)

holes_over : (e : Entry) (t : Pending) → holes (over e t) ≡ holes t
holes_over (entries.Word n) t = refl
holes_over entries.Truth t = omega arith
holes_over (entries.Place at) t = omega arith
holes_over (entries.Mixed o at w) t = omega arith
holes_over (entries.Unknown x) t = refl

holes_form : (w : LeftSide) (a b : Pending) → holes (form_of w a b) ≡ holes a + holes b
holes_form sides.All a b = refl
holes_form sides.Any a b = refl
holes_form (sides.Place aop) a b = refl

pub holes_round : (fs : List Frame) (t : Pending) → holes (plugged fs t) ≡ holes t
holes_round [] t = refl
holes_round (InWord ∷ fs) t = holes_round fs (Word t)
holes_round (InUnary o ∷ fs) t = holes_round fs (Unary o t)
holes_round (OnLeft o b ∷ fs) t = holes_round fs (Binary o t (begun b)) ∙ (omega (arith, no_hole b))
holes_round (OnRight o n ∷ fs) t = holes_round fs (Binary o (Number n) t) ∙ (omega arith)
holes_round (OnLeftSide w b ∷ fs) t = holes_round fs (form_of w t (begun b)) ∙ (omega (arith, holes_form w t (begun b), no_hole b))
holes_round (Over e ∷ fs) t = holes_round fs (over e t) ∙ holes_over e t
holes_round (AsCallee es ∷ fs) t = holes_round fs (Call t (begun_all es)) ∙ (omega (arith, no_holes es))
holes_round (AsArgument callee vs es ∷ fs) t =
    holes_round fs (Call (Number callee) (before vs (Then t (begun_all es)))) ∙ (omega (arith, holes_before vs (Then t (begun_all es)), no_holes es))

-- what has no hole is filled with nothing
filled_two : (v : ℕ) (l : Option Logic) (o : BinOp) (a b : Pending) → filled v (two_sided l o a b) ≡ two_sided l o (filled v a) (filled v b)
filled_two v None o a b = refl
filled_two v (Some w) o a b = refl

mutual
  same_filled : (v : ℕ) (t : PlainTree) → filled v (begun t) ≡ begun t
  same_filled v (trees.Number n) = refl
  same_filled v (trees.Str b) = refl
  same_filled v (trees.Name x) = refl
  same_filled v (trees.Address x) = refl
  same_filled v (trees.Word a) = ap Word (same_filled v a)
  same_filled v (trees.Unary o a) = ap (Unary o) (same_filled v a)
  same_filled v (trees.Binary o a b) =
      filled_two v (logic_of o) o (begun a) (begun b) ∙ (λ i. two_sided (logic_of o) o (same_filled v a i) (same_filled v b i))
  same_filled v (trees.SetName aop x e) = ap (SetName aop x) (same_filled v e)
  same_filled v (trees.SetWord aop a e) = λ i. SetWord aop (same_filled v a i) (same_filled v e i)
  same_filled v (trees.Call f es) = λ i. Call (same_filled v f i) (all_filled v es i)

  all_filled : (v : ℕ) (es : Arguments) → filled_all v (begun_all es) ≡ begun_all es
  all_filled v trees.End = refl
  all_filled v (trees.Then e es) = λ i. Then (same_filled v e i) (all_filled v es i)

filled_before : (v : ℕ) (vs : List ℕ) (es : Args) → filled_all v (before vs es) ≡ before vs (filled_all v es)
filled_before v [] es = refl
filled_before v (n ∷ vs) es = filled_before v vs (Then (Number n) es)

filled_over : (v : ℕ) (e : Entry) (t : Pending) → filled v (over e t) ≡ over e (filled v t)
filled_over v (entries.Word n) t = refl
filled_over v entries.Truth t = refl
filled_over v (entries.Place at) t = refl
filled_over v (entries.Mixed o at w) t = refl
filled_over v (entries.Unknown x) t = refl

filled_form : (v : ℕ) (w : LeftSide) (a b : Pending) → filled v (form_of w a b) ≡ form_of w (filled v a) (filled v b)
filled_form v sides.All a b = refl
filled_form v sides.Any a b = refl
filled_form v (sides.Place aop) a b = refl

-- an answer fills the part, and what is around it stays
pub filled_round : (v : ℕ) (fs : List Frame) (t : Pending) → filled v (plugged fs t) ≡ plugged fs (filled v t)
filled_round v [] t = refl
filled_round v (InWord ∷ fs) t = filled_round v fs (Word t)
filled_round v (InUnary o ∷ fs) t = filled_round v fs (Unary o t)
filled_round v (OnLeft o b ∷ fs) t = filled_round v fs (Binary o t (begun b)) ∙ ap (λ c. plugged fs (Binary o (filled v t) c)) (same_filled v b)
filled_round v (OnRight o n ∷ fs) t = filled_round v fs (Binary o (Number n) t)
filled_round v (OnLeftSide w b ∷ fs) t =
    filled_round v fs (form_of w t (begun b)) ∙ (ap (plugged fs) (filled_form v w t (begun b)) ∙ ap (λ c. plugged fs (form_of w (filled v t) c)) (same_filled v b))
filled_round v (Over e ∷ fs) t = filled_round v fs (over e t) ∙ ap (plugged fs) (filled_over v e t)
filled_round v (AsCallee es ∷ fs) t = filled_round v fs (Call t (begun_all es)) ∙ ap (λ c. plugged fs (Call (filled v t) c)) (all_filled v es)
filled_round v (AsArgument callee vs es ∷ fs) t =
    filled_round v fs (Call (Number callee) (before vs (Then t (begun_all es))))
    ∙ (ap (λ c. plugged fs (Call (Number callee) c)) (filled_before v vs (Then t (begun_all es)))
    ∙ ap (λ c. plugged fs (Call (Number callee) (before vs (Then (filled v t) c)))) (all_filled v es))

-- a statement has no hole
no_hole_expr : (t : PlainTree) → holes (begun_expr t) ≡ 0
no_hole_expr (trees.Name x) = refl
no_hole_expr (trees.Number n) = refl
no_hole_expr (trees.Str b) = refl
no_hole_expr (trees.Address x) = refl
no_hole_expr (trees.Word a) = no_hole (trees.Word a)
no_hole_expr (trees.Unary o a) = no_hole (trees.Unary o a)
no_hole_expr (trees.Binary o a b) = no_hole (trees.Binary o a b)
no_hole_expr (trees.SetName aop x e) = no_hole (trees.SetName aop x e)
no_hole_expr (trees.SetWord aop a e) = no_hole (trees.SetWord aop a e)
no_hole_expr (trees.Call f es) = no_hole (trees.Call f es)

pub begun_whole : BegunLaw
begun_whole trees.Nothing = refl
begun_whole (trees.Load file) = refl
begun_whole (trees.Command x es) = let q = no_holes es in omega (arith, q)
begun_whole (trees.Expr t) = no_hole_expr t
