-- What is inside an evaluation, by what it shows.
use Rattle.std.proofs.Common.{◌≡◌, ℕ, ◌<◌, ◌≤◌, Bool, true, false, List, [], ◌∷◌, length, ◌-◌, refl, sym, ap, ◌∙◌, subst, arith}
use Rattle.shell_eval.specs.declared.code.Op.{Op}
use Rattle.shell_eval.specs.declared.code.Entry.{Entry}
use Rattle.shell_eval.specs.declared.code.Entry.TheVariants as entries
use Rattle.shell_parse.specs.Trees.{PlainStmt}
use Rattle.shell_eval.specs.declared.went.Went.{Went}
use Rattle.shell_eval.specs.declared.went.Went.TheVariants as went
use Rattle.shell_eval.specs.State.{State}
use Rattle.shell_eval.specs.Moved.{came}
use Rattle.shell_eval.specs.Ran.{is_call}
use Rattle.shell_eval.specs.Room.{Entries}
use Rattle.shell_eval.specs.Pending.{Pending, Hole, filled}
use Rattle.shell_eval.specs.Laws.{holes}
use Rattle.shell_eval.specs.Code.{compiled_stmt}
use Rattle.shell_eval.specs.Frames.{Part, Source, Alone, Value, part_tree, plugged, Stands, Awaits}
use Rattle.shell_eval.specs.Follows.{tree_of, tree_with_hole}
use Rattle.shell_eval.specs.Inside.{IsAt, tree_at, room_of, IsEval}
use Rattle.shell_eval.proofs.Holes.{no_hole, holes_round, filled_round}
use Rattle.shell_eval.proofs.Steps as steps
use Rattle.shell_eval.proofs.Started.{begins}

hole_tree : (c : List Op) (st : List Entry) (h : Awaits c st) → tree_with_hole c st ≡ plugged h.frames Hole
hole_tree c st h = (λ i. tree_with_hole (h.code_is i) (h.stack_is i)) ∙ steps.hole_at h.frames

part_shown : (c : List Op) (st : List Entry) (h : Stands c st) → tree_of c st ≡ plugged h.frames (part_tree h.part)
part_shown c st h = (λ i. tree_of (h.code_is i) (h.stack_is i)) ∙ steps.tree_at h.part h.frames

holes_part : (p : Part) → holes (part_tree p) ≡ 0
holes_part (Source t) = no_hole t
holes_part (Alone x) = refl
holes_part (Value n) = refl

-- no call's answer is awaited if there is no hole, and one is if there is a hole
pub waits_not : (w : Bool) (c : List Op) (st : List Entry) → IsAt w c st → holes (tree_at w c st) ≡ 0 → w ≡ false
waits_not true c st h e =
    let one : holes (tree_with_hole c st) ≡ 1 = ap holes (hole_tree c st h) ∙ holes_round h.frames Hole in absurd (omega (arith, one, e))
waits_not false c st h e = refl

pub waits_so : (w : Bool) (c : List Op) (st : List Entry) → IsAt w c st → (holes (tree_at w c st) ≡ 0 → ⊥) → w ≡ true
waits_so true c st h e = refl
waits_so false c st h e = absurd (e (ap holes (part_shown c st h) ∙ (holes_round h.frames (part_tree h.part) ∙ holes_part h.part)))

-- an answer puts a value in the place of the hole
pub answered : (v : ℕ) (c : List Op) (st : List Entry) → Awaits c st → Stands c (entries.Word v ∷ st)
answered v c st h = record { part = Value v; frames = h.frames; code_is = h.code_is; stack_is = ap (λ ts. entries.Word v ∷ ts) h.stack_is }

pub fills : (v : ℕ) (c : List Op) (st : List Entry) → Awaits c st → tree_of c (entries.Word v ∷ st) ≡ filled v (tree_with_hole c st)
fills v c st h =
    (λ i. tree_of (h.code_is i) (entries.Word v ∷ h.stack_is i)) ∙ (steps.tree_at (Value v) h.frames ∙ sym (ap (filled v) (hole_tree c st h) ∙ filled_round v h.frames Hole))

-- the beginning
pub begins_inside : (s : PlainStmt) (c : List Op) (st : Entries) (n : ℕ) → c ≡ compiled_stmt s → st ≡ record { list = []; room = n } → n ≡ length c → length c ≤ 65536 → IsEval false c st
begins_inside s c st n e f g h =
    let r : st.room ≡ n = ap (λ t. t.room) f in
    let l : st.list ≡ [] = ap (λ t. t.list) f in
    record {
      at = record { part = (begins s).part; frames = (begins s).frames; code_is = e ∙ (begins s).code_is; stack_is = l ∙ (begins s).stack_is };
      room = omega (arith, r, g);
      few = h;
    }

-- no call's answer is awaited
pub not_waiting : (w : Bool) (c : List Op) (st : Entries) (p : Pending) → IsEval w c st → tree_at w c st.list ≡ p → holes p ≡ 0 → IsEval false c st
not_waiting w c st p h e z = subst (λ (b : Bool). IsEval b c st) (waits_not w c st.list h.at (ap holes e ∙ z)) h

pub shown_not_waiting : (w : Bool) (c : List Op) (st : Entries) (p : Pending) → IsEval w c st → tree_at w c st.list ≡ p → holes p ≡ 0 → tree_of c st.list ≡ p
shown_not_waiting w c st p h e z = sym (ap (λ (b : Bool). tree_at b c st.list) (waits_not w c st.list h.at (ap holes e ∙ z))) ∙ e

-- a call's answer is awaited
so : (w : Bool) (c : List Op) (st : Entries) (p : Pending) → IsEval w c st → tree_at w c st.list ≡ p → (holes p ≡ 0 → ⊥) → w ≡ true
so w c st p h e z = waits_so w c st.list h.at (λ n. z (ap holes (sym e) ∙ n))

pub waiting : (w : Bool) (c : List Op) (st : Entries) (p : Pending) → IsEval w c st → tree_at w c st.list ≡ p → (holes p ≡ 0 → ⊥) → IsEval true c st
waiting w c st p h e z = subst (λ (b : Bool). IsEval b c st) (so w c st p h e z) h

pub shown_waiting : (w : Bool) (c : List Op) (st : Entries) (p : Pending) → IsEval w c st → tree_at w c st.list ≡ p → (holes p ≡ 0 → ⊥) → tree_with_hole c st.list ≡ p
shown_waiting w c st p h e z = sym (ap (λ (b : Bool). tree_at b c st.list) (so w c st p h e z)) ∙ e

pub room_waiting : (c : List Op) (st : Entries) → IsEval true c st → 0 < st.room
room_waiting c st h = let r = h.room in omega arith

pub fills_inside : (v : ℕ) (c : List Op) (st new : Entries) → IsEval true c st → new ≡ record { list = entries.Word v ∷ st.list; room = st.room - 1 } → IsEval false c new
fills_inside v c st new h e =
    let r : new.room ≡ st.room - 1 = ap (λ t. t.room) e in
    let old = h.room in
    record {
      at = subst (λ (ts : List Entry). Stands c ts) (sym (ap (λ t. t.list) e)) (answered v c st.list h.at);
      room = omega arith;
      few = h.few;
    }

pub fills_shown : (v : ℕ) (c : List Op) (st new : Entries) (p : Pending) → IsEval true c st → tree_with_hole c st.list ≡ p → new ≡ record { list = entries.Word v ∷ st.list; room = st.room - 1 } →
    tree_of c new.list ≡ filled v p
fills_shown v c st new p h e f = ap (λ t. tree_of c t.list) f ∙ (fills v c st.list h.at ∙ ap (filled v) e)

-- what it came to, with the tree that is left
pub came_at : (r : Went) (s : State) (c : List Op) (st : List Entry) → came r s (tree_at (is_call r) c st) ≡ came r s (tree_with_hole c st)
came_at (went.Value n) s c st = refl
came_at (went.Call callee words) s c st = refl
came_at (went.Fault f) s c st = refl

-- how many answers are awaited
pub holes_inside : (w : Bool) (c : List Op) (st : Entries) → IsEval w c st → holes (tree_at w c st.list) ≡ room_of w
holes_inside true c st h = ap holes (hole_tree c st.list h.at) ∙ holes_round h.at.frames Hole
holes_inside false c st h = ap holes (part_shown c st.list h.at) ∙ (holes_round h.at.frames (part_tree h.at.part) ∙ holes_part h.at.part)
