-- A call leaves one hole, and an answer fills it.
use Rattle.std.proofs.Common.{◌≡◌, ℕ, zero, suc, ◌<◌, Bool, true, false, if◌then◌else◌, List, ◌∷◌, Option, Some, None, Ok, Err, refl, sym, ◌∙◌, subst, arith}
use Rattle.shell_parse.specs.declared.tree.BinOp.{BinOp}
use Rattle.shell_parse.specs.declared.tree.BinOp.TheVariants as ops
use Rattle.symbol_table.specs.declared.symbol.Symbol.{Symbol}
use Rattle.symbol_table.specs.declared.symbol.SymKind.{SymKind}
use Rattle.symbol_table.specs.declared.symbol.SymKind.TheVariants.{TextSym, DataSym, BssSym, AbsSym}
use Rattle.shell_eval.specs.declared.fault.EvalFault.TheVariants.{AccessAt}
use Rattle.symbol_table.specs.Newest.{find}
use Rattle.shell_eval.specs.Operators.{before_word}
use Rattle.shell_eval.specs.State.{State}
use Rattle.shell_eval.specs.Words.{Tried, combined, word_read, word_stored, is_value, name_word, name_value, string_made, variable_made}
use Rattle.shell_eval.specs.Pending.{Pending, Number, Str, Name, Lone, Address, Word, Unary, Binary, Choice, SetName, SetWord, New, Call, Hole, Args, End, Then, filled, filled_all, weight}
use Rattle.shell_eval.specs.Reduce.{Outcome, Is, Steps, Calls, Faults, Waits, reduce, reduce_all, within, given, padded, decides, chosen, lone_by, kind_or_data, old_read, resolved, left_by, set_at}
use Rattle.shell_eval.specs.Evaluate.{Evaluated, goes_on, reduced, evaluate}
use Rattle.shell_eval.specs.Laws.{holes, holes_all, StepLaw, CallLaw, FillLaw, IsEnd, EndsLaw}
use Rattle.shell_eval.proofs.Holes.{holes_set}
use Rattle.shell_eval.proofs.Smaller.{smaller}

mutual
  pub fills_holes : FillLaw
  fills_holes (Number n) v = refl
  fills_holes (Str b) v = refl
  fills_holes (Name x) v = refl
  fills_holes (Lone x) v = refl
  fills_holes (Address x) v = refl
  fills_holes (Word a) v = fills_holes a v
  fills_holes (Unary o a) v = fills_holes a v
  fills_holes (Binary o a b) v = let p = fills_holes a v in let q = fills_holes b v in omega (arith, p, q)
  fills_holes (Choice w a b) v = let p = fills_holes a v in let q = fills_holes b v in omega (arith, p, q)
  fills_holes (SetName aop x e) v = holes_set aop x (filled v e) ∙ fills_holes e v
  fills_holes (SetWord aop a e) v = let p = fills_holes a v in let q = fills_holes e v in omega (arith, p, q)
  fills_holes (New x e) v = fills_holes e v
  fills_holes (Call f es) v = let p = fills_holes f v in let q = fills_all es v in omega (arith, p, q)
  fills_holes Hole v = refl

  fills_all : (es : Args) (v : ℕ) → holes_all (filled_all v es) ≡ 0
  fills_all End v = refl
  fills_all (Then e es) v = let p = fills_holes e v in let q = fills_all es v in omega (arith, p, q)

-- nothing awaited after a step, one answer after a call that is due, and nothing to wait for
abbrev Leaves : {V T : Type 0} → (T → ℕ) → Outcome V T → Type 0
Leaves count (Is v) = Unit {0}
Leaves count (Steps s t) = count t ≡ 0
Leaves count (Calls f vs t) = count t ≡ 1
Leaves count (Faults e) = Unit {0}
Leaves count Waits = ⊥

leaves_within : {V T W U : Type 0} (cT : T → ℕ) (cU : U → ℕ) (r : Outcome V T) (around : T → U) (go : V → Outcome W U) →
    Leaves cT r → ((k : ℕ) (t : T) → cT t ≡ k → cU (around t) ≡ k) → ((v : V) → Leaves cU (go v)) → Leaves cU (within r around go)
leaves_within cT cU (Is v) around go h f g = g v
leaves_within cT cU (Steps s t) around go h f g = f 0 t h
leaves_within cT cU (Calls c vs t) around go h f g = f 1 t h
leaves_within cT cU (Faults e) around go h f g = tt
leaves_within cT cU Waits around go h f g = h

leaves_given : (r : Tried) → Leaves holes (given r)
leaves_given (Ok a) = refl
leaves_given (Err e) = tt

leaves_old : (op : BinOp) (at : ℕ) (e : Pending) (r : Tried) → holes e ≡ 0 → Leaves holes (old_read op at e r)
leaves_old op at e (Ok a) z = omega arith
leaves_old op at e (Err f) z = tt

leaves_resolved : (s : State) (aop : Option BinOp) (at : ℕ) (e : Pending) → holes e ≡ 0 → Leaves holes (resolved s aop at e)
leaves_resolved s None at e z = omega arith
leaves_resolved s (Some op) at e z = leaves_old op at e (word_read s at) z

leaves_kind : (b : Bool) (s : State) (aop : Option BinOp) (at : ℕ) (e : Pending) → holes e ≡ 0 → Leaves holes (if b then Faults (AccessAt at) else resolved s aop at e)
leaves_kind true s aop at e z = tt
leaves_kind false s aop at e z = leaves_resolved s aop at e z

leaves_left : (s : State) (aop : Option BinOp) (x : List ℕ) (e : Pending) (y : Option Symbol) → holes e ≡ 0 → Leaves holes (left_by s aop x e y)
leaves_left s None x e None z = z
leaves_left s (Some op) x e None z = tt
leaves_left s None x e (Some y) z = leaves_kind (is_value y.kind) s None y.value e z
leaves_left s (Some op) x e (Some y) z = leaves_kind (is_value y.kind) s (Some op) y.value e z

leaves_lone : (s : State) (x : List ℕ) (y : Option Symbol) (k : SymKind) → Leaves holes (lone_by s x y k)
leaves_lone s x (Some y) TextSym = refl
leaves_lone s x (Some y) DataSym = leaves_given (name_word s x)
leaves_lone s x (Some y) BssSym = leaves_given (name_word s x)
leaves_lone s x (Some y) AbsSym = leaves_given (name_word s x)
leaves_lone s x None k = leaves_given (name_word s x)

leaves_chosen : (s : State) (b : Bool) (n : ℕ) (e : Pending) → holes e ≡ 0 → Leaves {V = ℕ} holes (Steps s (if b then Number n else Binary ops.Ne e (Number 0)))
leaves_chosen s true n e z = refl
leaves_chosen s false n e z = omega arith

leaves_set : (s : State) (aop : Option BinOp) (at : ℕ) (e : Pending) (r : Outcome ℕ Pending) → Leaves holes r → holes e ≡ 0 → Leaves holes (set_at s aop at e r)
leaves_set s None at e r h z = leaves_within holes holes r (SetWord None (Number at)) (λ v. given (word_stored s at v)) h (λ k t l. omega arith) (λ v. leaves_given (word_stored s at v))
leaves_set s (Some op) at e r h z = leaves_old op at e (word_read s at) z

-- if no answer is awaited, for a tree and for arguments
mutual
  leaves : (s : State) (p : Pending) → holes p ≡ 0 → Leaves holes (reduce s p)
  leaves s (Number n) z = tt
  leaves s (Str b) z = leaves_given (string_made s b)
  leaves s (Name x) z = leaves_given (name_word s x)
  leaves s (Lone x) z = leaves_lone s x (find s.symbols x) (kind_or_data (find s.symbols x))
  leaves s (Address x) z = leaves_given (name_value s x)
  leaves s (Word a) z = leaves_within holes holes (reduce s a) Word (λ n. given (word_read s n)) (leaves s a z) (λ k t l. l) (λ n. leaves_given (word_read s n))
  leaves s (Unary op a) z =
      leaves_within holes holes (reduce s a) (Unary op) (λ n. Steps s (Number (before_word op n))) (leaves s a z) (λ k t l. l) (λ n. refl)
  leaves s (Binary op a b) z =
      leaves_within holes holes (reduce s a) (λ t. Binary op t b) (λ m. within (reduce s b) (Binary op (Number m)) (λ n. given (combined s op m n)))
      (leaves s a (omega arith)) (λ k t l. omega arith)
      (λ m. leaves_within holes holes (reduce s b) (Binary op (Number m)) (λ n. given (combined s op m n)) (leaves s b (omega arith)) (λ k t l. omega arith)
      (λ n. leaves_given (combined s op m n)))
  leaves s (Choice w a b) z =
      leaves_within holes holes (reduce s a) (λ t. Choice w t b) (λ n. Steps s (chosen w n b)) (leaves s a (omega arith)) (λ k t l. omega arith)
      (λ n. leaves_chosen s (decides w n) _ b (omega arith))
  leaves s (SetName aop x e) z = leaves_left s aop x e (find s.symbols x) (sym (holes_set aop x e) ∙ z)
  leaves s (SetWord aop a e) z =
      leaves_within holes holes (reduce s a) (λ t. SetWord aop t e) (λ at. set_at s aop at e (reduce s e)) (leaves s a (omega arith)) (λ k t l. omega arith)
      (λ at. leaves_set s aop at e (reduce s e) (leaves s e (omega arith)) (omega arith))
  leaves s (New x e) z = leaves_within holes holes (reduce s e) (New x) (λ v. given (variable_made s x v)) (leaves s e z) (λ k t l. l) (λ v. leaves_given (variable_made s x v))
  leaves s (Call f es) z =
      leaves_within holes holes (reduce s f) (λ t. Call t es) (λ callee. within (reduce_all s es) (Call (Number callee)) (λ vs. Calls callee (padded vs) Hole))
      (leaves s f (omega arith)) (λ k t l. omega arith)
      (λ callee. leaves_within holes_all holes (reduce_all s es) (Call (Number callee)) (λ vs. Calls callee (padded vs) Hole) (leaves_all s es (omega arith))
      (λ k t l. omega arith) (λ vs. refl))
  leaves s Hole z = absurd (omega arith)

  leaves_all : (s : State) (ps : Args) → holes_all ps ≡ 0 → Leaves holes_all (reduce_all s ps)
  leaves_all s End z = tt
  leaves_all s (Then e es) z =
      leaves_within holes holes_all (reduce s e) (λ t. Then t es) (λ v. within (reduce_all s es) (Then (Number v)) (λ vs. Is (v ∷ vs))) (leaves s e (omega arith))
      (λ k t l. omega arith)
      (λ v. leaves_within holes_all holes_all (reduce_all s es) (Then (Number v)) (λ vs. Is (v ∷ vs)) (leaves_all s es (omega arith)) (λ k t l. omega arith) (λ vs. tt))

pub calls_leave : CallLaw
calls_leave s p f vs q e z = subst (λ (r : Outcome ℕ Pending). Leaves holes r) e (leaves s p z)

pub steps_leave : StepLaw
steps_leave s p t q e z = subst (λ (r : Outcome ℕ Pending). Leaves holes r) e (leaves s p z)

-- evaluation never waits
ends_on : (s : State) (r : Outcome ℕ Pending) (more : State → Pending → Evaluated) → Leaves holes r →
    ((t : State) (q : Pending) → r ≡ Steps t q → holes q ≡ 0 → IsEnd (more t q).ending) → IsEnd (goes_on r s more).ending
ends_on s (Is v) more h go = tt
ends_on s (Steps t q) more h go = go t q refl h
ends_on s (Calls f vs q) more h go = h
ends_on s (Faults e) more h go = tt
ends_on s Waits more h go = h

ends_by : (n : ℕ) (s : State) (p : Pending) → weight p < n → holes p ≡ 0 → IsEnd (reduced n s p).ending
ends_by zero s p h z = absurd (omega arith)
ends_by (suc n) s p h z =
    ends_on s (reduce s p) (reduced n) (leaves s p z) (λ t q e k. let l = smaller s p t q e in ends_by n t q (omega arith) k)

pub ends : EndsLaw
unfolding evaluate
ends s p z = ends_by (suc (weight p)) s p (omega arith) z
