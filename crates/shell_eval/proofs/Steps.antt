-- Each operation is some reductions of the tree that code and entries show.
use Rattle.std.proofs.Common.{◌≡◌, ℕ, suc, ◌-◌, ◌<◌, ◌≤◌, Bool, true, false, if◌then◌else◌, ◌==◌, not, List, [], ◌∷◌, length, map, drop, Option, Some, None, Ok, Err, inl, inr, refl, sym, ap, ◌∙◌, subst, arith}
use Rattle.std.specs.Prelude.{slice_index}
use Rattle.std.specs.List.{range_with_len}
use Rattle.std.proofs.Math.Path.{fun_ext}
use Rattle.std.proofs.lemmas.Bool.{cases_lt, lt-ltb, le-ltb}
use Rattle.shell_eval.specs.declared.fault.EvalFault.TheVariants.{Undefined, AccessAt}
use Rattle.shell_parse.specs.declared.tree.BinOp.{BinOp}
use Rattle.shell_parse.specs.declared.tree.BinOp.TheVariants as ops
use Rattle.shell_eval.specs.declared.code.LeftSide.{LeftSide}
use Rattle.shell_eval.specs.declared.code.LeftSide.TheVariants as sides
use Rattle.shell_eval.specs.declared.code.Op.{Op}
use Rattle.shell_eval.specs.declared.code.Op.TheVariants as op
use Rattle.shell_eval.specs.declared.code.Entry.{Entry}
use Rattle.shell_eval.specs.declared.code.Entry.TheVariants as entries
use Rattle.symbol_table.specs.declared.symbol.Symbol.{Symbol}
use Rattle.symbol_table.specs.declared.symbol.SymKind.{SymKind}
use Rattle.symbol_table.specs.declared.symbol.SymKind.TheVariants.{TextSym, DataSym, BssSym, AbsSym}
use Rattle.symbol_table.specs.Newest.{find}
use Rattle.ppc_core.specs.Words.{bit}
use Rattle.shell_eval.specs.Operators.{before_word}
use Rattle.shell_eval.specs.State.{State}
use Rattle.shell_eval.specs.Words.{Tried, combined, word_read, word_stored, is_value, name_word, name_value, string_made, variable_made}
use Rattle.shell_parse.specs.Trees as trees
use Rattle.shell_parse.specs.Trees.{PlainTree}
use Rattle.shell_eval.specs.Pending.{Pending, Number, Str, Name, Lone, Address, Word, Unary, Binary, Choice, SetName, SetWord, New, Call, Hole, Args, End, Then, Logic, All, Any, logic_of, two_sided, begun}
use Rattle.shell_eval.specs.Reduce.{Is, Steps, Calls, Faults, reduce, reduce_all, within, given, padded, decides, lone_by, kind_or_data, old_read, resolved, left_by}
use Rattle.shell_eval.specs.Evaluate.{ended, evaluate, Call as CallEnd}
use Rattle.shell_eval.specs.Code.{compiled, form_of, after_left}
use Rattle.shell_eval.specs.Machine.{Fails, Moved, Ends, Goes, Makes, Stops, onward, top_word, below, pushes, argument, arguments, asks, alone_by, mixes, places, left_effect, side_step, mixed_effect, close_effect, move}
use Rattle.shell_eval.specs.Frames.{Frame, InWord, InUnary, OnLeft, OnRight, OnLeftSide, Over, AsCallee, AsArgument, Part, Source, Alone, Value, over, before, plugged, code_after, stack_under, words_onto, code_at, stack_at, part_tree, Stands}
use Rattle.shell_eval.specs.Follows.{tree_of, tree_with_hole, Goes_on, Comes_to_call, Follows}
use Rattle.shell_eval.proofs.Shown.{shows_at, shows_part}
use Rattle.shell_eval.proofs.Smaller.{repeats}
use Rattle.shell_eval.proofs.Ahead.{Ahead, ahead, both, one, here, drops}
use Rattle.shell_eval.proofs.Around.{stepped, called, faulted}

-- code and entries at a part show the tree around it
pub tree_at : (p : Part) (fs : List Frame) → tree_of (code_at p fs) (stack_at p fs) ≡ plugged fs (part_tree p)
unfolding tree_of
tree_at p fs = shows_at p fs

pub hole_at : (fs : List Frame) → tree_with_hole (code_after fs) (stack_under fs) ≡ plugged fs Hole
unfolding tree_with_hole
hole_at fs = shows_part fs Hole

-- evaluation goes on at a part of the tree
goes : (s : State) (p : Pending) (t : State) (at : Part) (fs : List Frame) → evaluate s p ≡ evaluate t (plugged fs (part_tree at)) → Goes_on s p t (code_at at fs) (stack_at at fs)
goes s p t at fs e = record {
  stands = record { part = at; frames = fs; code_is = refl; stack_is = refl };
  same = e ∙ ap (evaluate t) (sym (tree_at at fs));
}

-- a part becomes a value
to_value : (fs : List Frame) (s : State) (t : Pending) (s' : State) (n : ℕ) → reduce s t ≡ Steps s' (Number n) → Goes_on s (plugged fs t) s' (code_after fs) (entries.Word n ∷ stack_under fs)
to_value fs s t s' n e = goes s (plugged fs t) s' (Value n) fs (stepped fs s t s' (Number n) e)

-- a part becomes a value, or a fault
to_given : (fs : List Frame) (s : State) (t : Pending) (r : Tried) → reduce s t ≡ given r → Follows s (plugged fs t) (onward (code_after fs) (pushes s r (stack_under fs)))
to_given fs s t (Ok m) e = to_value fs s t m.state m.word e
to_given fs s t (Err f) e = faulted fs s t f e

-- a part becomes a call
to_call : (fs : List Frame) (s : State) (t : Pending) (f : ℕ) (vs : List ℕ) → reduce s t ≡ Calls f vs Hole → Comes_to_call s (plugged fs t) s f vs (code_after fs) (stack_under fs)
to_call fs s t f vs e = record {
  awaits = record { frames = fs; code_is = refl; stack_is = refl };
  same = called fs s t f vs Hole e ∙ ap (λ q. ended s (CallEnd f vs q)) (sym (hole_at fs));
}

-- an assignment at a known address
places_follow : (fs : List Frame) (s : State) (aop : Option BinOp) (at : ℕ) (e : PlainTree) (t : Pending) → reduce s t ≡ resolved s aop at (begun e) →
    Follows s (plugged fs t) (onward (compiled e (op.Close ∷ code_after fs)) (places s aop at (stack_under fs)))
places_follow fs s None at e t h = goes s (plugged fs t) s (Source e) (Over (entries.Place at) ∷ fs) (stepped fs s t s (SetWord None (Number at) (begun e)) h)
places_follow fs s (Some o) at e t h = by_old (word_read s at) h where
  by_old : (r : Tried) → reduce s t ≡ old_read o at (begun e) r → Follows s (plugged fs t) (onward (compiled e (op.Close ∷ code_after fs)) (mixes s o at r (stack_under fs)))
  by_old (Ok m) k =
      goes s (plugged fs t) m.state (Source e) (Over (entries.Mixed o at m.word) ∷ fs) (stepped fs s t m.state (SetWord None (Number at) (Binary o (Number m.word) (begun e))) k)
  by_old (Err f) k = faulted fs s t f k

-- the left name of an assignment
kind_follows : (b : Bool) (fs : List Frame) (s : State) (aop : Option BinOp) (at : ℕ) (e : PlainTree) (t : Pending) →
    reduce s t ≡ (if b then Faults (AccessAt at) else resolved s aop at (begun e)) →
    Follows s (plugged fs t) (onward (compiled e (op.Close ∷ code_after fs)) (if b then Fails s (AccessAt at) else places s aop at (stack_under fs)))
kind_follows true fs s aop at e t h = faulted fs s t (AccessAt at) h
kind_follows false fs s aop at e t h = places_follow fs s aop at e t h

left_follows : (y : Option Symbol) (fs : List Frame) (s : State) (aop : Option BinOp) (x : List ℕ) (e : PlainTree) (t : Pending) → reduce s t ≡ left_by s aop x (begun e) y →
    Follows s (plugged fs t) (onward (compiled e (op.Close ∷ code_after fs)) (left_effect s aop x y (stack_under fs)))
left_follows None fs s None x e t h = goes s (plugged fs t) s (Source e) (Over (entries.Unknown x) ∷ fs) (stepped fs s t s (New x (begun e)) h)
left_follows None fs s (Some o) x e t h = faulted fs s t (Undefined x) h
left_follows (Some y) fs s None x e t h = kind_follows (is_value y.kind) fs s None y.value e t h
left_follows (Some y) fs s (Some o) x e t h = kind_follows (is_value y.kind) fs s (Some o) y.value e t h

-- a name alone
alone_follows : (y : Option Symbol) (k : SymKind) (fs : List Frame) (s : State) (x : List ℕ) (t : Pending) → reduce s t ≡ lone_by s x y k →
    Follows s (plugged fs t) (onward (code_after fs) (alone_by s x y k (stack_under fs)))
alone_follows (Some y) TextSym fs s x t h = record {
  awaits = record { frames = fs; code_is = refl; stack_is = refl };
  same = stepped fs s t s (Call (Number y.value) End) h ∙ (to_call fs s (Call (Number y.value) End) y.value (padded []) refl).same;
}
alone_follows (Some y) DataSym fs s x t h = to_given fs s t (name_word s x) h
alone_follows (Some y) BssSym fs s x t h = to_given fs s t (name_word s x) h
alone_follows (Some y) AbsSym fs s x t h = to_given fs s t (name_word s x) h
alone_follows None k fs s x t h = to_given fs s t (name_word s x) h

-- what the code of a tree begins with
two_follow : (l : Option Logic) (fs : List Frame) (s : State) (o : BinOp) (a b : PlainTree) →
    ((gs : List Frame) → Follows s (plugged gs (begun a)) (move s (compiled a (code_after gs)) (stack_under gs))) →
    Follows s (plugged fs (two_sided l o (begun a) (begun b))) (move s (compiled a (after_left l o (compiled b) (code_after fs))) (stack_under fs))
two_follow None fs s o a b go = go (OnLeft o b ∷ fs)
two_follow (Some All) fs s o a b go = go (OnLeftSide sides.All b ∷ fs)
two_follow (Some Any) fs s o a b go = go (OnLeftSide sides.Any b ∷ fs)

source_follows : (t : PlainTree) (fs : List Frame) (s : State) → Follows s (plugged fs (begun t)) (move s (compiled t (code_after fs)) (stack_under fs))
source_follows (trees.Number n) fs s = goes s (plugged fs (Number n)) s (Value n) fs refl
source_follows (trees.Str b) fs s = to_given fs s (Str b) (string_made s b) refl
source_follows (trees.Name x) fs s = to_given fs s (Name x) (name_word s x) refl
source_follows (trees.Address x) fs s = to_given fs s (Address x) (name_value s x) refl
source_follows (trees.Word a) fs s = source_follows a (InWord ∷ fs) s
source_follows (trees.Unary o a) fs s = source_follows a (InUnary o ∷ fs) s
source_follows (trees.Binary o a b) fs s = two_follow (logic_of o) fs s o a b (λ gs. source_follows a gs s)
source_follows (trees.SetName aop x e) fs s = left_follows (find s.symbols x) fs s aop x e (SetName aop x (begun e)) refl
source_follows (trees.SetWord aop a e) fs s = source_follows a (OnLeftSide (sides.Place aop) e ∷ fs) s
source_follows (trees.Call f es) fs s = source_follows f (AsCallee es ∷ fs) s

-- the arguments of a call, the last first, in their order
abbrev pub in_order : List ℕ → List ℕ → List ℕ
in_order [] ws = ws
in_order (v ∷ vs) ws = in_order vs (v ∷ ws)

values_before : (vs : List ℕ) (s : State) (es : Args) (ws : List ℕ) → reduce_all s es ≡ Is ws → reduce_all s (before vs es) ≡ Is (in_order vs ws)
values_before [] s es ws e = e
values_before (v ∷ vs) s es ws e = values_before vs s (Then (Number v) es) (v ∷ ws) (ap (λ q. within q (Then (Number v)) (λ us. Is (v ∷ us))) e)

-- entries are there as the machine finds them
callee_below : (vs : List ℕ) (st : List Entry) → drop (length vs) (words_onto vs st) ≡ st
callee_below [] st = refl
callee_below (v ∷ vs) st = callee_below vs st

found_back : (vs ws : List ℕ) (p : ℕ) → length vs ≤ p → slice_index (in_order vs ws) p ≡ slice_index ws (p - length vs)
found_back [] ws p h = let e : p ≡ p - 0 = omega arith in ap (slice_index ws) e
found_back (v ∷ vs) ws p h = let e : p - length vs ≡ suc (p - suc (length vs)) = omega arith in found_back vs (v ∷ ws) p (omega arith) ∙ ap (slice_index (v ∷ ws)) e

found_in_prefix : (vs ws : List ℕ) (st : List Entry) (p : ℕ) → p < length vs → slice_index (in_order vs ws) p ≡ top_word (drop (length vs - 1 - p) (words_onto vs st))
found_in_prefix [] ws st p h = absurd (omega arith)
found_in_prefix (v ∷ vs) ws st p h = elim (cases_lt p (length vs)) [
  | inl l ↦
      let e : suc (length vs) - 1 - p ≡ suc (length vs - 1 - p) = omega arith in
      found_in_prefix vs (v ∷ ws) st p l ∙ sym (ap (λ k. top_word (drop k (entries.Word v ∷ words_onto vs st))) e)
  | inr g ↦
      let e : p - length vs ≡ 0 = omega arith in
      let d : suc (length vs) - 1 - p ≡ 0 = omega arith in
      found_back vs (v ∷ ws) p g ∙ (ap (slice_index (v ∷ ws)) e ∙ sym (ap (λ k. top_word (drop k (entries.Word v ∷ words_onto vs st))) d))
]

argument_is : (vs : List ℕ) (st : List Entry) (p : ℕ) → argument (length vs) (words_onto vs st) p ≡ slice_index (in_order vs []) p
argument_is vs st p = elim (cases_lt p (length vs)) [
  | inl h ↦ ap (λ b. if b then top_word (drop (length vs - 1 - p) (words_onto vs st)) else 0) (lt-ltb p (length vs) h) ∙ sym (found_in_prefix vs [] st p h)
  | inr g ↦ ap (λ b. if b then top_word (drop (length vs - 1 - p) (words_onto vs st)) else 0) (le-ltb p (length vs) g) ∙ sym (found_back vs [] p g)
]

calls_are : (s : State) (vs : List ℕ) (callee : ℕ) (c : List Op) (st : List Entry) →
    onward c (asks s (length vs) (words_onto vs (entries.Word callee ∷ st))) ≡ Makes s callee (padded (in_order vs [])) c st
calls_are s vs callee c st =
    let all : List Entry = words_onto vs (entries.Word callee ∷ st) in
    let f : top_word (drop (length vs) all) ≡ callee = ap top_word (callee_below vs (entries.Word callee ∷ st)) in
    let a : arguments (length vs) all ≡ padded (in_order vs []) = ap (λ g. map g (range_with_len 0 10)) (fun_ext (argument_is vs (entries.Word callee ∷ st))) in
    let d : below (drop (length vs) all) ≡ st = ap below (callee_below vs (entries.Word callee ∷ st)) in
    λ i. Makes s (f i) (a i) c (d i)

-- the same evaluation from elsewhere
along : (m : Moved) (s t : State) (p q : Pending) → evaluate s p ≡ evaluate t q → Follows t q m → Follows s p m
along (Ends u n) s t p q e h = e ∙ h
along (Goes u c st) s t p q e h = record { stands = h.stands; same = e ∙ h.same }
along (Makes u f vs c st) s t p q e h = record { awaits = h.awaits; same = e ∙ h.same }
along (Stops u f) s t p q e h = e ∙ h

-- the effect of a left side that may decide
decided : (d : Bool) (fs : List Frame) (s : State) (b : PlainTree) (n : ℕ) (t : Pending) → reduce s t ≡ Steps s (if d then Number n else Binary ops.Ne (begun b) (Number 0)) →
    (c : List Op) → c ≡ compiled b (op.Close ∷ code_after fs) →
    Follows s (plugged fs t) (if d then Goes s (drop (length c - length (code_after fs)) c) (entries.Word n ∷ stack_under fs) else Goes s c (entries.Truth ∷ stack_under fs))
decided true fs s b n t h c e =
    let k : List Op = code_after fs in
    let way : Ahead (compiled b (op.Close ∷ k)) k = both (compiled b (op.Close ∷ k)) (op.Close ∷ k) k (ahead b (op.Close ∷ k)) (one op.Close k k (here k)) in
    let left : drop (length c - length k) c ≡ k = ap (λ d. drop (length d - length k) d) e ∙ drops (compiled b (op.Close ∷ k)) k way in
    subst (λ d. Goes_on s (plugged fs t) s d (entries.Word n ∷ stack_under fs)) (sym left) (to_value fs s t s n h)
decided false fs s b n t h c e =
    subst (λ d. Goes_on s (plugged fs t) s d (entries.Truth ∷ stack_under fs)) (sym e)
    (goes s (plugged fs t) s (Source b) (Over entries.Truth ∷ fs) (stepped fs s t s (Binary ops.Ne (begun b) (Number 0)) h))

side_follows : (w : LeftSide) (fs : List Frame) (s : State) (b : PlainTree) (n : ℕ) →
    Follows s (plugged fs (form_of w (Number n) (begun b))) (side_step s w (length (code_after fs)) n (compiled b (op.Close ∷ code_after fs)) (stack_under fs))
side_follows sides.All fs s b n = decided (decides All n) fs s b (bit (not (n == 0))) (Choice All (Number n) (begun b)) refl (compiled b (op.Close ∷ code_after fs)) refl
side_follows sides.Any fs s b n = decided (decides Any n) fs s b (bit (not (n == 0))) (Choice Any (Number n) (begun b)) refl (compiled b (op.Close ∷ code_after fs)) refl
side_follows (sides.Place None) fs s b n = goes s (plugged fs (SetWord None (Number n) (begun b))) s (Source b) (Over (entries.Place n) ∷ fs) refl
side_follows (sides.Place (Some o)) fs s b n = places_follow fs s (Some o) n b (SetWord (Some o) (Number n) (begun b)) refl

mixed_follows : (r : Tried) (fs : List Frame) (s : State) (at : ℕ) (t : Pending) → reduce s t ≡ given r →
    Follows s (plugged fs (SetWord None (Number at) t)) (onward (code_after fs) (mixed_effect s at r (stack_under fs)))
mixed_follows (Ok m) fs s at t h =
    along (onward (code_after fs) (pushes m.state (word_stored m.state at m.word) (stack_under fs))) s m.state (plugged fs (SetWord None (Number at) t))
    (plugged fs (SetWord None (Number at) (Number m.word))) (stepped (Over (entries.Place at) ∷ fs) s t m.state (Number m.word) h)
    (to_given fs m.state (SetWord None (Number at) (Number m.word)) (word_stored m.state at m.word) refl)
mixed_follows (Err f) fs s at t h = faulted (Over (entries.Place at) ∷ fs) s t f h

close_follows : (e : Entry) (fs : List Frame) (s : State) (n : ℕ) → Follows s (plugged fs (over e (Number n))) (onward (code_after fs) (close_effect s n (Some e) (stack_under fs)))
close_follows (entries.Word m) fs s n = goes s (plugged fs (Number n)) s (Value n) fs refl
close_follows entries.Truth fs s n = to_value fs s (Binary ops.Ne (Number n) (Number 0)) s (bit (not (n == 0))) refl
close_follows (entries.Place at) fs s n = to_given fs s (SetWord None (Number at) (Number n)) (word_stored s at n) refl
close_follows (entries.Mixed o at w) fs s n = mixed_follows (combined s o w n) fs s at (Binary o (Number w) (Number n)) refl
close_follows (entries.Unknown x) fs s n = to_given fs s (New x (Number n)) (variable_made s x n) refl

-- the call of this callee with these arguments
call_follows : (vs : List ℕ) (fs : List Frame) (s : State) (callee : ℕ) →
    Follows s (plugged fs (Call (Number callee) (before vs End))) (onward (code_after fs) (asks s (length vs) (words_onto vs (entries.Word callee ∷ stack_under fs))))
call_follows vs fs s callee =
    let t : Pending = Call (Number callee) (before vs End) in
    let e : reduce s t ≡ Calls callee (padded (in_order vs [])) Hole =
    ap (λ q. within q (Call (Number callee)) (λ ws. Calls callee (padded ws) Hole)) (values_before vs s End [] refl) in
    subst (Follows s (plugged fs t)) (sym (calls_are s vs callee (code_after fs) (stack_under fs))) (to_call fs s t callee (padded (in_order vs [])) e)

value_follows : (n : ℕ) (fs : List Frame) (s : State) → Follows s (plugged fs (Number n)) (move s (code_after fs) (entries.Word n ∷ stack_under fs))
value_follows n [] s = repeats s (Number n)
value_follows n (InWord ∷ fs) s = to_given fs s (Word (Number n)) (word_read s n) refl
value_follows n (InUnary o ∷ fs) s = to_value fs s (Unary o (Number n)) s (before_word o n) refl
value_follows n (OnLeft o b ∷ fs) s = source_follows b (OnRight o n ∷ fs) s
value_follows n (OnRight o m ∷ fs) s = to_given fs s (Binary o (Number m) (Number n)) (combined s o m n) refl
value_follows n (OnLeftSide w b ∷ fs) s = side_follows w fs s b n
value_follows n (Over e ∷ fs) s = close_follows e fs s n
value_follows n (AsCallee trees.End ∷ fs) s = call_follows [] fs s n
value_follows n (AsCallee (trees.Then e es) ∷ fs) s = source_follows e (AsArgument n [] es ∷ fs) s
value_follows n (AsArgument callee vs trees.End ∷ fs) s = call_follows (n ∷ vs) fs s callee
value_follows n (AsArgument callee vs (trees.Then e es) ∷ fs) s = source_follows e (AsArgument callee (n ∷ vs) es ∷ fs) s

part_follows : (p : Part) (fs : List Frame) (s : State) → Follows s (plugged fs (part_tree p)) (move s (code_at p fs) (stack_at p fs))
part_follows (Source t) fs s = source_follows t fs s
part_follows (Alone x) fs s = alone_follows (find s.symbols x) (kind_or_data (find s.symbols x)) fs s x (Lone x) refl
part_follows (Value n) fs s = value_follows n fs s

-- what the next operation does to code and entries at a place in a tree
pub moves_follow : (s : State) (c : List Op) (st : List Entry) → Stands c st → Follows s (tree_of c st) (move s c st)
moves_follow s c st h =
    let at : Follows s (tree_of (code_at h.part h.frames) (stack_at h.part h.frames)) (move s (code_at h.part h.frames) (stack_at h.part h.frames)) =
    subst (λ q. Follows s q (move s (code_at h.part h.frames) (stack_at h.part h.frames))) (sym (tree_at h.part h.frames)) (part_follows h.part h.frames s) in
    let below_code : Follows s (tree_of (code_at h.part h.frames) st) (move s (code_at h.part h.frames) st) =
    subst (λ ts. Follows s (tree_of (code_at h.part h.frames) ts) (move s (code_at h.part h.frames) ts)) (sym h.stack_is) at in
    subst (λ d. Follows s (tree_of d st) (move s d st)) (sym h.code_is) below_code
