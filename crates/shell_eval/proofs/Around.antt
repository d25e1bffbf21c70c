-- What is due in a part is due in the tree around it.
use Rattle.std.proofs.Common.{◌≡◌, ℕ, List, [], ◌∷◌, None, refl, ap, ◌∙◌}
use Rattle.shell_eval.specs.declared.fault.EvalFault.{EvalFault}
use Rattle.shell_parse.specs.declared.tree.BinOp.{BinOp}
use Rattle.shell_parse.specs.declared.tree.BinOp.TheVariants as ops
use Rattle.shell_eval.specs.declared.code.LeftSide.{LeftSide}
use Rattle.shell_eval.specs.declared.code.LeftSide.TheVariants as sides
use Rattle.shell_eval.specs.declared.code.Entry.{Entry}
use Rattle.shell_eval.specs.declared.code.Entry.TheVariants as entries
use Rattle.shell_eval.specs.Operators.{before_word}
use Rattle.shell_eval.specs.State.{State}
use Rattle.shell_eval.specs.Words.{combined, word_read, word_stored, variable_made}
use Rattle.shell_eval.specs.Pending.{Pending, Number, Word, Unary, Binary, Choice, SetWord, New, Call, Hole, Args, Then, All, Any, begun, begun_all}
use Rattle.shell_eval.specs.Reduce.{Outcome, Is, Steps, Calls, Faults, Waits, reduce, reduce_all, within, given, padded, chosen, set_at}
use Rattle.shell_eval.specs.Code.{form_of}
use Rattle.shell_eval.specs.Evaluate.{Call as CallEnd, Fault, goes_on, ended, evaluate}
use Rattle.shell_eval.specs.Frames.{Frame, InWord, InUnary, OnLeft, OnRight, OnLeftSide, Over, AsCallee, AsArgument, over, before, plugged}
use Rattle.shell_eval.proofs.Smaller.{repeats}

-- something is due
abbrev pub IsDue : {V T : Type 0} → Outcome V T → Type 0
IsDue (Is v) = ⊥
IsDue (Steps s t) = Unit {0}
IsDue (Calls f vs t) = Unit {0}
IsDue (Faults e) = Unit {0}
IsDue Waits = Unit {0}

-- the same for what is around it
abbrev pub mapped : {V W T U : Type 0} → W → (T → U) → Outcome V T → Outcome W U
mapped w around (Is v) = Is w
mapped w around (Steps s t) = Steps s (around t)
mapped w around (Calls f vs t) = Calls f vs (around t)
mapped w around (Faults e) = Faults e
mapped w around Waits = Waits

mapped_due : {V W T U : Type 0} (w : W) (around : T → U) (r : Outcome V T) → IsDue r → IsDue (mapped w around r)
mapped_due w around (Is v) h = absurd h
mapped_due w around (Steps s t) h = tt
mapped_due w around (Calls f vs t) h = tt
mapped_due w around (Faults e) h = tt
mapped_due w around Waits h = tt

mapped_twice : {V W X T U Y : Type 0} (w : W) (x : X) (inner : T → U) (outer : U → Y) (r : Outcome V T) → mapped x outer (mapped w inner r) ≡ mapped x (λ t. outer (inner t)) r
mapped_twice w x inner outer (Is v) = refl
mapped_twice w x inner outer (Steps s t) = refl
mapped_twice w x inner outer (Calls f vs t) = refl
mapped_twice w x inner outer (Faults e) = refl
mapped_twice w x inner outer Waits = refl

mapped_same : {V T : Type 0} (v : V) (r : Outcome V T) → IsDue r → r ≡ mapped v (λ t. t) r
mapped_same v (Is w) h = absurd h
mapped_same v (Steps s t) h = refl
mapped_same v (Calls f vs t) h = refl
mapped_same v (Faults e) h = refl
mapped_same v Waits h = refl

due_within : {V T W U : Type 0} (w : W) (r : Outcome V T) (around : T → U) (go : V → Outcome W U) → IsDue r → within r around go ≡ mapped w around r
due_within w (Is v) around go h = absurd h
due_within w (Steps s t) around go h = refl
due_within w (Calls f vs t) around go h = refl
due_within w (Faults e) around go h = refl
due_within w Waits around go h = refl

-- the same if r is what is due in a part
part_within : {V T W U : Type 0} (w : W) (p r : Outcome V T) (around : T → U) (go : V → Outcome W U) → p ≡ r → IsDue r → within p around go ≡ mapped w around r
part_within w p r around go e h = ap (λ q. within q around go) e ∙ due_within w r around go h

one_round : (w : LeftSide) (s : State) (t b : Pending) (r : Outcome ℕ Pending) → reduce s t ≡ r → IsDue r → reduce s (form_of w t b) ≡ mapped 0 (λ u. form_of w u b) r
one_round sides.All s t b r e h = part_within 0 (reduce s t) r (λ u. Choice All u b) (λ n. Steps s (chosen All n b)) e h
one_round sides.Any s t b r e h = part_within 0 (reduce s t) r (λ u. Choice Any u b) (λ n. Steps s (chosen Any n b)) e h
one_round (sides.Place aop) s t b r e h = part_within 0 (reduce s t) r (λ u. SetWord aop u b) (λ at. set_at s aop at b (reduce s b)) e h

right_round : (s : State) (o : BinOp) (m : ℕ) (t : Pending) (r : Outcome ℕ Pending) → reduce s t ≡ r → IsDue r → reduce s (Binary o (Number m) t) ≡ mapped 0 (Binary o (Number m)) r
right_round s o m t r e h = part_within 0 (reduce s t) r (Binary o (Number m)) (λ n. given (combined s o m n)) e h

set_round : (s : State) (at : ℕ) (t : Pending) (r : Outcome ℕ Pending) → reduce s t ≡ r → IsDue r → reduce s (SetWord None (Number at) t) ≡ mapped 0 (SetWord None (Number at)) r
set_round s at t r e h = part_within 0 (reduce s t) r (SetWord None (Number at)) (λ v. given (word_stored s at v)) e h

over_round : (n : Entry) (s : State) (t : Pending) (r : Outcome ℕ Pending) → reduce s t ≡ r → IsDue r → reduce s (over n t) ≡ mapped 0 (over n) r
over_round (entries.Word n) s t r e h = e ∙ mapped_same 0 r h
over_round entries.Truth s t r e h = part_within 0 (reduce s t) r (λ u. Binary ops.Ne u (Number 0)) (λ m. given (combined s ops.Ne m 0)) e h
over_round (entries.Place at) s t r e h = set_round s at t r e h
over_round (entries.Mixed o at w) s t r e h =
    set_round s at (Binary o (Number w) t) (mapped 0 (Binary o (Number w)) r) (right_round s o w t r e h) (mapped_due 0 (Binary o (Number w)) r h)
    ∙ mapped_twice 0 0 (Binary o (Number w)) (SetWord None (Number at)) r
over_round (entries.Unknown x) s t r e h = part_within 0 (reduce s t) r (New x) (λ v. given (variable_made s x v)) e h

-- arguments after values
before_round : (vs : List ℕ) (s : State) (es : Args) (r : Outcome (List ℕ) Args) → reduce_all s es ≡ r → IsDue r → reduce_all s (before vs es) ≡ mapped [] (before vs) r
before_round [] s es r e h = e ∙ mapped_same [] r h
before_round (v ∷ vs) s es r e h =
    before_round vs s (Then (Number v) es) (mapped [] (Then (Number v)) r)
    (part_within [] (reduce_all s es) r (Then (Number v)) (λ ws. Is (v ∷ ws)) e h) (mapped_due [] (Then (Number v)) r h)
    ∙ mapped_twice [] [] (Then (Number v)) (before vs) r

argument_round : (callee : ℕ) (vs : List ℕ) (s : State) (t : Pending) (es : Args) (r : Outcome ℕ Pending) → reduce s t ≡ r → IsDue r →
    reduce s (Call (Number callee) (before vs (Then t es))) ≡ mapped 0 (λ u. Call (Number callee) (before vs (Then u es))) r
argument_round callee vs s t es r e h =
    let first : reduce_all s (Then t es) ≡ mapped [] (λ u. Then u es) r =
    part_within [] (reduce s t) r (λ u. Then u es) (λ v. within (reduce_all s es) (Then (Number v)) (λ ws. Is (v ∷ ws))) e h in
    let all : reduce_all s (before vs (Then t es)) ≡ mapped [] (before vs) (mapped [] (λ u. Then u es) r) =
    before_round vs s (Then t es) (mapped [] (λ u. Then u es) r) first (mapped_due [] (λ u. Then u es) r h) in
    part_within 0 (reduce_all s (before vs (Then t es))) (mapped [] (before vs) (mapped [] (λ u. Then u es) r)) (Call (Number callee))
    (λ ws. Calls callee (padded ws) Hole) all (mapped_due [] (before vs) (mapped [] (λ u. Then u es) r) (mapped_due [] (λ u. Then u es) r h))
    ∙ (mapped_twice [] 0 (before vs) (Call (Number callee)) (mapped [] (λ u. Then u es) r)
    ∙ mapped_twice [] 0 (λ u. Then u es) (λ ds. Call (Number callee) (before vs ds)) r)

-- what is due in a part is due in the tree around it
pub due_round : (fs : List Frame) (s : State) (t : Pending) (r : Outcome ℕ Pending) → reduce s t ≡ r → IsDue r → reduce s (plugged fs t) ≡ mapped 0 (plugged fs) r
due_round [] s t r e h = e ∙ mapped_same 0 r h
due_round (InWord ∷ fs) s t r e h =
    let one : reduce s (Word t) ≡ mapped 0 Word r = part_within 0 (reduce s t) r Word (λ n. given (word_read s n)) e h in
    due_round fs s (Word t) (mapped 0 Word r) one (mapped_due 0 Word r h) ∙ mapped_twice 0 0 Word (plugged fs) r
due_round (InUnary o ∷ fs) s t r e h =
    let one : reduce s (Unary o t) ≡ mapped 0 (Unary o) r = part_within 0 (reduce s t) r (Unary o) (λ n. Steps s (Number (before_word o n))) e h in
    due_round fs s (Unary o t) (mapped 0 (Unary o) r) one (mapped_due 0 (Unary o) r h) ∙ mapped_twice 0 0 (Unary o) (plugged fs) r
due_round (OnLeft o b ∷ fs) s t r e h =
    let form : Pending → Pending = λ u. Binary o u (begun b) in
    let one : reduce s (form t) ≡ mapped 0 form r =
    part_within 0 (reduce s t) r form (λ m. within (reduce s (begun b)) (Binary o (Number m)) (λ n. given (combined s o m n))) e h in
    due_round fs s (form t) (mapped 0 form r) one (mapped_due 0 form r h) ∙ mapped_twice 0 0 form (plugged fs) r
due_round (OnRight o n ∷ fs) s t r e h =
    let one : reduce s (Binary o (Number n) t) ≡ mapped 0 (Binary o (Number n)) r = right_round s o n t r e h in
    due_round fs s (Binary o (Number n) t) (mapped 0 (Binary o (Number n)) r) one (mapped_due 0 (Binary o (Number n)) r h) ∙ mapped_twice 0 0 (Binary o (Number n)) (plugged fs) r
due_round (OnLeftSide w b ∷ fs) s t r e h =
    let form : Pending → Pending = λ u. form_of w u (begun b) in
    due_round fs s (form t) (mapped 0 form r) (one_round w s t (begun b) r e h) (mapped_due 0 form r h) ∙ mapped_twice 0 0 form (plugged fs) r
due_round (Over n ∷ fs) s t r e h =
    due_round fs s (over n t) (mapped 0 (over n) r) (over_round n s t r e h) (mapped_due 0 (over n) r h) ∙ mapped_twice 0 0 (over n) (plugged fs) r
due_round (AsCallee es ∷ fs) s t r e h =
    let form : Pending → Pending = λ u. Call u (begun_all es) in
    let one : reduce s (form t) ≡ mapped 0 form r =
    part_within 0 (reduce s t) r form (λ callee. within (reduce_all s (begun_all es)) (Call (Number callee)) (λ vs. Calls callee (padded vs) Hole)) e h in
    due_round fs s (form t) (mapped 0 form r) one (mapped_due 0 form r h) ∙ mapped_twice 0 0 form (plugged fs) r
due_round (AsArgument callee vs es ∷ fs) s t r e h =
    let form : Pending → Pending = λ u. Call (Number callee) (before vs (Then u (begun_all es))) in
    due_round fs s (form t) (mapped 0 form r) (argument_round callee vs s t (begun_all es) r e h) (mapped_due 0 form r h) ∙ mapped_twice 0 0 form (plugged fs) r

-- a step of a part is a step of evaluation
pub stepped : (fs : List Frame) (s : State) (t : Pending) (s' : State) (t' : Pending) → reduce s t ≡ Steps s' t' → evaluate s (plugged fs t) ≡ evaluate s' (plugged fs t')
stepped fs s t s' t' e = repeats s (plugged fs t) ∙ ap (λ r. goes_on r s evaluate) (due_round fs s t (Steps s' t') e tt)

-- a call of a part is the call that is due
pub called : (fs : List Frame) (s : State) (t : Pending) (f : ℕ) (vs : List ℕ) (t' : Pending) → reduce s t ≡ Calls f vs t' →
    evaluate s (plugged fs t) ≡ ended s (CallEnd f vs (plugged fs t'))
called fs s t f vs t' e = repeats s (plugged fs t) ∙ ap (λ r. goes_on r s evaluate) (due_round fs s t (Calls f vs t') e tt)

-- a fault of a part is a fault of the whole
pub faulted : (fs : List Frame) (s : State) (t : Pending) (f : EvalFault) → reduce s t ≡ Faults f → evaluate s (plugged fs t) ≡ ended s (Fault f)
faulted fs s t f e = repeats s (plugged fs t) ∙ ap (λ r. goes_on r s evaluate) (due_round fs s t (Faults f) e tt)
