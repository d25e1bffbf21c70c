-- Each reduction makes the tree smaller, so evaluation is what it repeats.
use Rattle.std.proofs.Common.{◌≡◌, ℕ, zero, suc, ◌+◌, ◌<◌, Bool, true, false, if◌then◌else◌, List, ◌∷◌, Option, Some, None, Ok, Err, refl, subst, arith}
use Rattle.shell_parse.specs.declared.tree.BinOp.{BinOp}
use Rattle.shell_parse.specs.declared.tree.BinOp.TheVariants as ops
use Rattle.symbol_table.specs.declared.symbol.Symbol.{Symbol}
use Rattle.symbol_table.specs.declared.symbol.SymKind.{SymKind}
use Rattle.symbol_table.specs.declared.symbol.SymKind.TheVariants.{TextSym, DataSym, BssSym, AbsSym}
use Rattle.shell_eval.specs.declared.fault.EvalFault.TheVariants.{AccessAt}
use Rattle.symbol_table.specs.Newest.{find}
use Rattle.shell_eval.specs.Operators.{before_word}
use Rattle.shell_eval.specs.State.{State}
use Rattle.shell_eval.specs.Words.{Tried, combined, word_read, word_stored, is_value, name_word, name_value, string_made, variable_made}
use Rattle.shell_eval.specs.Pending.{Pending, Number, Str, Name, Lone, Address, Word, Unary, Binary, Choice, SetName, SetWord, New, Call, Hole, Args, End, Then, weight, weight_all}
use Rattle.shell_eval.specs.Reduce.{Outcome, Is, Steps, Calls, Faults, Waits, reduce, reduce_all, within, given, padded, decides, chosen, lone_by, kind_or_data, old_read, resolved, left_by, set_at}
use Rattle.shell_eval.specs.Evaluate.{Evaluated, goes_on, reduced, evaluate}
use Rattle.shell_eval.specs.Laws.{SmallerLaw, RepeatsLaw}

-- a step makes it lighter than n
abbrev Lessens : {V T : Type 0} → ℕ → (T → ℕ) → Outcome V T → Type 0
Lessens n w (Is v) = Unit {0}
Lessens n w (Steps s t) = w t < n
Lessens n w (Calls f vs t) = Unit {0}
Lessens n w (Faults e) = Unit {0}
Lessens n w Waits = Unit {0}

less_within : {V T W U : Type 0} (n m : ℕ) (wT : T → ℕ) (wU : U → ℕ) (r : Outcome V T) (around : T → U) (go : V → Outcome W U) →
    Lessens n wT r → ((t : T) → wT t < n → wU (around t) < m) → ((v : V) → Lessens m wU (go v)) → Lessens m wU (within r around go)
less_within n m wT wU (Is v) around go h f g = g v
less_within n m wT wU (Steps s t) around go h f g = f t h
less_within n m wT wU (Calls c vs t) around go h f g = tt
less_within n m wT wU (Faults e) around go h f g = tt
less_within n m wT wU Waits around go h f g = tt

less_given : (m : ℕ) (r : Tried) → 0 < m → Lessens m weight (given r)
less_given m (Ok a) h = h
less_given m (Err e) h = tt

less_chosen : (m : ℕ) (s : State) (b : Bool) (n : ℕ) (e : Pending) → weight e + 1 < m → Lessens {V = ℕ} m weight (Steps s (if b then Number n else Binary ops.Ne e (Number 0)))
less_chosen m s true n e h = omega arith
less_chosen m s false n e h = omega arith

less_lone : (s : State) (x : List ℕ) (y : Option Symbol) (k : SymKind) → Lessens 2 weight (lone_by s x y k)
less_lone s x (Some y) TextSym = omega arith
less_lone s x (Some y) DataSym = less_given 2 (name_word s x) (omega arith)
less_lone s x (Some y) BssSym = less_given 2 (name_word s x) (omega arith)
less_lone s x (Some y) AbsSym = less_given 2 (name_word s x) (omega arith)
less_lone s x None k = less_given 2 (name_word s x) (omega arith)

less_old : (m : ℕ) (op : BinOp) (at : ℕ) (e : Pending) (r : Tried) → weight e + 2 < m → Lessens m weight (old_read op at e r)
less_old m op at e (Ok a) h = omega arith
less_old m op at e (Err f) h = tt

less_resolved : (s : State) (aop : Option BinOp) (at : ℕ) (e : Pending) → Lessens (weight e + 3) weight (resolved s aop at e)
less_resolved s None at e = omega arith
less_resolved s (Some op) at e = less_old (weight e + 3) op at e (word_read s at) (omega arith)

less_kind : (b : Bool) (s : State) (aop : Option BinOp) (at : ℕ) (e : Pending) → Lessens (weight e + 3) weight (if b then Faults (AccessAt at) else resolved s aop at e)
less_kind true s aop at e = tt
less_kind false s aop at e = less_resolved s aop at e

less_left : (s : State) (aop : Option BinOp) (x : List ℕ) (e : Pending) (y : Option Symbol) → Lessens (weight e + 3) weight (left_by s aop x e y)
less_left s None x e None = omega arith
less_left s (Some op) x e None = tt
less_left s None x e (Some y) = less_kind (is_value y.kind) s None y.value e
less_left s (Some op) x e (Some y) = less_kind (is_value y.kind) s (Some op) y.value e

less_set : (s : State) (aop : Option BinOp) (a : Pending) (at : ℕ) (e : Pending) (r : Outcome ℕ Pending) → Lessens (weight e) weight r → Lessens (weight (SetWord aop a e)) weight (set_at s aop at e r)
less_set s None a at e r h =
    less_within (weight e) (weight a + weight e + 1) weight weight r (SetWord None (Number at)) (λ v. given (word_stored s at v)) h (λ t l. omega arith)
    (λ v. less_given (weight a + weight e + 1) (word_stored s at v) (omega arith))
less_set s (Some op) a at e r h = less_old (weight a + weight e + 3) op at e (word_read s at) (omega arith)

set_less : (aop : Option BinOp) (a e t : Pending) → weight t < weight a → weight (SetWord aop t e) < weight (SetWord aop a e)
set_less None a e t h = omega arith
set_less (Some op) a e t h = omega arith

mutual
  lessens : (s : State) (p : Pending) → Lessens (weight p) weight (reduce s p)
  lessens s (Number n) = tt
  lessens s (Str b) = less_given 1 (string_made s b) (omega arith)
  lessens s (Name x) = less_given 1 (name_word s x) (omega arith)
  lessens s (Lone x) = less_lone s x (find s.symbols x) (kind_or_data (find s.symbols x))
  lessens s (Address x) = less_given 1 (name_value s x) (omega arith)
  lessens s (Word a) =
      less_within (weight a) (weight a + 1) weight weight (reduce s a) Word (λ n. given (word_read s n)) (lessens s a) (λ t l. omega arith)
      (λ n. less_given (weight a + 1) (word_read s n) (omega arith))
  lessens s (Unary op a) =
      less_within (weight a) (weight a + 1) weight weight (reduce s a) (Unary op) (λ n. Steps s (Number (before_word op n))) (lessens s a) (λ t l. omega arith)
      (λ n. omega arith)
  lessens s (Binary op a b) =
      less_within (weight a) (weight a + weight b + 1) weight weight (reduce s a) (λ t. Binary op t b)
      (λ m. within (reduce s b) (Binary op (Number m)) (λ n. given (combined s op m n))) (lessens s a) (λ t l. omega arith)
      (λ m. less_within (weight b) (weight a + weight b + 1) weight weight (reduce s b) (Binary op (Number m)) (λ n. given (combined s op m n)) (lessens s b)
      (λ t l. omega arith) (λ n. less_given (weight a + weight b + 1) (combined s op m n) (omega arith)))
  lessens s (Choice w a b) =
      less_within (weight a) (weight a + weight b + 2) weight weight (reduce s a) (λ t. Choice w t b) (λ n. Steps s (chosen w n b)) (lessens s a)
      (λ t l. omega arith) (λ n. less_chosen (weight a + weight b + 2) s (decides w n) _ b (omega arith))
  lessens s (SetName aop x e) = less_left s aop x e (find s.symbols x)
  lessens s (SetWord aop a e) =
      less_within (weight a) (weight (SetWord aop a e)) weight weight (reduce s a) (λ t. SetWord aop t e) (λ at. set_at s aop at e (reduce s e)) (lessens s a)
      (λ t l. set_less aop a e t l) (λ at. less_set s aop a at e (reduce s e) (lessens s e))
  lessens s (New x e) =
      less_within (weight e) (weight e + 1) weight weight (reduce s e) (New x) (λ v. given (variable_made s x v)) (lessens s e) (λ t l. omega arith)
      (λ v. less_given (weight e + 1) (variable_made s x v) (omega arith))
  lessens s (Call f es) =
      less_within (weight f) (weight f + weight_all es + 1) weight weight (reduce s f) (λ t. Call t es)
      (λ callee. within (reduce_all s es) (Call (Number callee)) (λ vs. Calls callee (padded vs) Hole)) (lessens s f) (λ t l. omega arith)
      (λ callee. less_within (weight_all es) (weight f + weight_all es + 1) weight_all weight (reduce_all s es) (Call (Number callee))
      (λ vs. Calls callee (padded vs) Hole) (lessens_all s es) (λ t l. omega arith) (λ vs. tt))
  lessens s Hole = tt

  lessens_all : (s : State) (ps : Args) → Lessens (weight_all ps) weight_all (reduce_all s ps)
  lessens_all s End = tt
  lessens_all s (Then e es) =
      less_within (weight e) (weight e + weight_all es) weight weight_all (reduce s e) (λ t. Then t es)
      (λ v. within (reduce_all s es) (Then (Number v)) (λ vs. Is (v ∷ vs))) (lessens s e) (λ t l. omega arith)
      (λ v. less_within (weight_all es) (weight e + weight_all es) weight_all weight_all (reduce_all s es) (Then (Number v)) (λ vs. Is (v ∷ vs)) (lessens_all s es)
      (λ t l. omega arith) (λ vs. tt))

pub smaller : SmallerLaw
smaller s p t q e = subst (λ (r : Outcome ℕ Pending). Lessens (weight p) weight r) e (lessens s p)

-- two ways to go on that agree on what is lighter
same_on : (w : ℕ) (r : Outcome ℕ Pending) (s : State) (f g : State → Pending → Evaluated) → Lessens w weight r → ((t : State) (q : Pending) → weight q < w → f t q ≡ g t q) → goes_on r s f ≡ goes_on r s g
same_on w (Is v) s f g h e = refl
same_on w (Steps t q) s f g h e = e t q h
same_on w (Calls c vs t) s f g h e = refl
same_on w (Faults x) s f g h e = refl
same_on w Waits s f g h e = refl

-- more reductions than the weight change nothing
enough : (n m : ℕ) (s : State) (p : Pending) → weight p < n → weight p < m → reduced n s p ≡ reduced m s p
enough zero m s p h k = absurd (omega arith)
enough (suc n) zero s p h k = absurd (omega arith)
enough (suc n) (suc m) s p h k = same_on (weight p) (reduce s p) s (reduced n) (reduced m) (lessens s p) (λ t q l. enough n m t q (omega arith) (omega arith))

pub repeats : RepeatsLaw
unfolding evaluate
repeats s p = same_on (weight p) (reduce s p) s (reduced (weight p)) evaluate (lessens s p) (λ t q l. enough (weight p) (suc (weight q)) t q (omega arith) (omega arith))
