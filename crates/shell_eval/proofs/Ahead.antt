-- The code of a tree comes before the code after it.
use Rattle.std.proofs.Common.{◌≡◌, ◌-◌, List, [], ◌∷◌, ◌++◌, length, drop, Option, Some, None, refl, sym, ap, ◌∙◌, arith, append_assoc}
use Rattle.std.proofs.lemmas.List.{length-append}
use Rattle.std.proofs.Math.Seq.{drop-append_seam}
use Rattle.shell_parse.specs.declared.tree.BinOp.{BinOp}
use Rattle.shell_eval.specs.declared.code.LeftSide.TheVariants as sides
use Rattle.shell_eval.specs.declared.code.Op.{Op}
use Rattle.shell_eval.specs.declared.code.Op.TheVariants as op
use Rattle.shell_parse.specs.Trees as trees
use Rattle.shell_parse.specs.Trees.{PlainTree, Arguments}
use Rattle.shell_eval.specs.Pending.{Logic, logic_of}
use Rattle.shell_eval.specs.Code.{compiled, compiled_all, count_onto, side_of, after_left}

-- c is something ahead of k
pub record Ahead (c k : List Op) : Type 0 where
  pub prefix : List Op
  pub same : c ≡ prefix ++ k

pub here : (k : List Op) → Ahead k k
here k = record { prefix = []; same = refl }

pub one : (o : Op) (c k : List Op) → Ahead c k → Ahead (o ∷ c) k
one o c k h = record { prefix = o ∷ h.prefix; same = ap (λ d. o ∷ d) h.same }

pub both : (c d k : List Op) → Ahead c d → Ahead d k → Ahead c k
both c d k h g = record { prefix = h.prefix ++ g.prefix; same = h.same ∙ (ap (λ e. h.prefix ++ e) g.same ∙ sym (append_assoc h.prefix g.prefix k)) }

after : (l : Option Logic) (o : BinOp) (right : List Op → List Op) (k : List Op) → ((d : List Op) → Ahead (right d) d) → Ahead (after_left l o right k) k
after None o right k h = both (right (op.Binary o ∷ k)) (op.Binary o ∷ k) k (h (op.Binary o ∷ k)) (one (op.Binary o) k k (here k))
after (Some w) o right k h =
    one (op.LeftSide (side_of w) (length k)) (right (op.Close ∷ k)) k (both (right (op.Close ∷ k)) (op.Close ∷ k) k (h (op.Close ∷ k)) (one op.Close k k (here k)))

mutual
  pub ahead : (t : PlainTree) (k : List Op) → Ahead (compiled t k) k
  ahead (trees.Number n) k = one (op.Push n) k k (here k)
  ahead (trees.Str b) k = one (op.Str b) k k (here k)
  ahead (trees.Name x) k = one (op.Name x) k k (here k)
  ahead (trees.Address x) k = one (op.Address x) k k (here k)
  ahead (trees.Word a) k = both (compiled a (op.Word ∷ k)) (op.Word ∷ k) k (ahead a (op.Word ∷ k)) (one op.Word k k (here k))
  ahead (trees.Unary o a) k = both (compiled a (op.Unary o ∷ k)) (op.Unary o ∷ k) k (ahead a (op.Unary o ∷ k)) (one (op.Unary o) k k (here k))
  ahead (trees.Binary o a b) k =
      let d : List Op = after_left (logic_of o) o (compiled b) k in
      both (compiled a d) d k (ahead a d) (after (logic_of o) o (compiled b) k (λ c. ahead b c))
  ahead (trees.SetName aop x e) k =
      one (op.Left aop x) (compiled e (op.Close ∷ k)) k (both (compiled e (op.Close ∷ k)) (op.Close ∷ k) k (ahead e (op.Close ∷ k)) (one op.Close k k (here k)))
  ahead (trees.SetWord aop a e) k =
      let d : List Op = op.LeftSide (sides.Place aop) (length k) ∷ compiled e (op.Close ∷ k) in
      both (compiled a d) d k (ahead a d)
      (one (op.LeftSide (sides.Place aop) (length k)) (compiled e (op.Close ∷ k)) k (both (compiled e (op.Close ∷ k)) (op.Close ∷ k) k (ahead e (op.Close ∷ k)) (one op.Close k k (here k))))
  ahead (trees.Call f es) k =
      let c : List Op = op.Call (count_onto es 0) ∷ k in
      both (compiled f (compiled_all es c)) (compiled_all es c) k (ahead f (compiled_all es c)) (both (compiled_all es c) c k (ahead_all es c) (one (op.Call (count_onto es 0)) k k (here k)))

  pub ahead_all : (es : Arguments) (k : List Op) → Ahead (compiled_all es k) k
  ahead_all trees.End k = here k
  ahead_all (trees.Then e es) k = both (compiled e (compiled_all es k)) (compiled_all es k) k (ahead e (compiled_all es k)) (ahead_all es k)

-- this many of the last operations are the code after it
drops_by : (xs k : List Op) → drop (length (xs ++ k) - length k) (xs ++ k) ≡ k
drops_by xs k = let e : length (xs ++ k) - length k ≡ length xs = omega (arith, length-append xs k) in ap (λ n. drop n (xs ++ k)) e ∙ drop-append_seam xs k

pub drops : (c k : List Op) → Ahead c k → drop (length c - length k) c ≡ k
drops c k h = ap (λ d. drop (length d - length k) d) h.same ∙ drops_by h.prefix k
