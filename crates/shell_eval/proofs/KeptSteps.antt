-- What each reduction keeps, and so evaluation.
use Rattle.std.proofs.Common.{ℕ, zero, suc, ◌+◌, ◌≤◌, Bool, true, false, if◌then◌else◌, List, ◌∷◌, length, Option, Some, None, Ok, Err, arith}
use Rattle.symbol_table.specs.Newest.{find}
use Rattle.symbol_table.specs.declared.symbol.Symbol.{Symbol}
use Rattle.symbol_table.specs.declared.symbol.SymKind.{SymKind}
use Rattle.symbol_table.specs.declared.symbol.SymKind.TheVariants.{TextSym, DataSym, BssSym, AbsSym}
use Rattle.shell_parse.specs.declared.tree.BinOp.{BinOp}
use Rattle.shell_parse.specs.declared.tree.BinOp.TheVariants as ops
use Rattle.shell_eval.specs.declared.fault.EvalFault.TheVariants.{AccessAt}
use Rattle.shell_eval.specs.Operators.{before_word}
use Rattle.shell_eval.specs.State.{State}
use Rattle.shell_eval.specs.Words.{Tried, combined, word_read, word_stored, is_value, name_word, name_value, string_made, announcement, variable_made}
use Rattle.shell_eval.specs.Pending.{Pending, Number, Str, Name, Lone, Address, Word, Unary, Binary, Choice, SetName, SetWord, New, Call, Hole, Args, End, Then, weight}
use Rattle.shell_eval.specs.Reduce.{Outcome, Is, Steps, Calls, Faults, Waits, reduce, reduce_all, within, given, padded, decides, chosen, lone_by, kind_or_data, old_read, resolved, left_by, set_at}
use Rattle.shell_eval.specs.Evaluate.{Evaluated, goes_on, reduced, evaluate}
use Rattle.shell_eval.specs.Kept.{IsPoolInRam, Keeps, announced, announced_all, KeepsLaw, OutputLaw}
use Rattle.shell_eval.proofs.Keeping.{Writes, Safe, keeps_same, keeps_then, pool_in_ram, read_safe, stored_safe, name_safe, address_safe, string_safe, variable_safe, combined_safe}

-- ---- what is due

-- a reduction keeps the state, and writes no more than the announcements that the tree loses
abbrev Holds : {V T : Type 0} → State → ℕ → (T → ℕ) → Outcome V T → Type 0
Holds s n w (Is v) = Unit {0}
Holds s n w (Steps t q) = Keeps s t × (length t.output + w q ≤ length s.output + n)
Holds s n w (Calls f vs q) = Unit {0}
Holds s n w (Faults e) = Unit {0}
Holds s n w Waits = Unit {0}

holds_within : {V T W U : Type 0} (s : State) (n m : ℕ) (wT : T → ℕ) (wU : U → ℕ) (r : Outcome V T) (around : T → U) (go : V → Outcome W U) →
    Holds s n wT r → ((a b : ℕ) (t : T) → a + wT t ≤ b + n → a + wU (around t) ≤ b + m) → ((v : V) → Holds s m wU (go v)) → Holds s m wU (within r around go)
holds_within s n m wT wU (Is v) around go h f g = g v
holds_within s n m wT wU (Steps t q) around go (k, l) f g = (k, f (length t.output) (length s.output) q l)
holds_within s n m wT wU (Calls c vs t) around go h f g = tt
holds_within s n m wT wU (Faults e) around go h f g = tt
holds_within s n m wT wU Waits around go h f g = tt

holds_given : (s : State) (n k : ℕ) (r : Tried) → Safe k s r → k ≤ n → Holds s n announced (given r)
holds_given s n k (Ok m) (h, l) le = (h, omega arith)
holds_given s n k (Err e) h le = tt

holds_old : (s : State) (n : ℕ) (op : BinOp) (at : ℕ) (e : Pending) (r : Tried) → Safe 0 s r → announced e ≤ n → Holds s n announced (old_read op at e r)
holds_old s n op at e (Ok m) (h, l) le = (h, omega arith)
holds_old s n op at e (Err f) h le = tt

holds_resolved : (s : State) (n : ℕ) (aop : Option BinOp) (at : ℕ) (e : Pending) → announced e ≤ n → Holds s n announced (resolved s aop at e)
holds_resolved s n None at e le = (keeps_same s, omega arith)
holds_resolved s n (Some op) at e le = holds_old s n op at e (word_read s at) (read_safe 0 s at) le

holds_kind : (b : Bool) (s : State) (n : ℕ) (aop : Option BinOp) (at : ℕ) (e : Pending) → announced e ≤ n → Holds s n announced (if b then Faults (AccessAt at) else resolved s aop at e)
holds_kind true s n aop at e le = tt
holds_kind false s n aop at e le = holds_resolved s n aop at e le

holds_left : (s : State) (aop : Option BinOp) (x : List ℕ) (e : Pending) (y : Option Symbol) → Holds s (announced (SetName aop x e)) announced (left_by s aop x e y)
holds_left s None x e None = (keeps_same s, omega arith)
holds_left s (Some op) x e None = tt
holds_left s None x e (Some y) = holds_kind (is_value y.kind) s (announced (SetName None x e)) None y.value e (omega arith)
holds_left s (Some op) x e (Some y) = holds_kind (is_value y.kind) s (announced e) (Some op) y.value e (omega arith)

holds_lone : (s : State) (x : List ℕ) (y : Option Symbol) (k : SymKind) → Holds s 0 announced (lone_by s x y k)
holds_lone s x (Some y) TextSym = (keeps_same s, omega arith)
holds_lone s x (Some y) DataSym = holds_given s 0 0 (name_word s x) (name_safe 0 s x) (omega arith)
holds_lone s x (Some y) BssSym = holds_given s 0 0 (name_word s x) (name_safe 0 s x) (omega arith)
holds_lone s x (Some y) AbsSym = holds_given s 0 0 (name_word s x) (name_safe 0 s x) (omega arith)
holds_lone s x None k = holds_given s 0 0 (name_word s x) (name_safe 0 s x) (omega arith)

holds_chosen : (s : State) (m : ℕ) (b : Bool) (n : ℕ) (e : Pending) → announced e ≤ m → Holds {V = ℕ} s m announced (Steps s (if b then Number n else Binary ops.Ne e (Number 0)))
holds_chosen s m true n e le = (keeps_same s, omega arith)
holds_chosen s m false n e le = (keeps_same s, omega arith)

holds_set : (s : State) (m : ℕ) (aop : Option BinOp) (at : ℕ) (e : Pending) (r : Outcome ℕ Pending) → Holds s (announced e) announced r → announced e ≤ m → Holds s m announced (set_at s aop at e r)
holds_set s m None at e r h le =
    holds_within s (announced e) m announced announced r (SetWord None (Number at)) (λ v. given (word_stored s at v)) h (λ a b t l. omega arith)
    (λ v. holds_given s m 0 (word_stored s at v) (stored_safe 0 s at v) (omega arith))
holds_set s m (Some op) at e r h le = holds_old s m op at e (word_read s at) (read_safe 0 s at) le

mutual
  holds : (s : State) (p : Pending) → IsPoolInRam s → Holds s (announced p) announced (reduce s p)
  holds s (Number n) i = tt
  holds s (Str b) i = holds_given s 0 0 (string_made s b) (string_safe 0 s b i) (omega arith)
  holds s (Name x) i = holds_given s 0 0 (name_word s x) (name_safe 0 s x) (omega arith)
  holds s (Lone x) i = holds_lone s x (find s.symbols x) (kind_or_data (find s.symbols x))
  holds s (Address x) i = holds_given s 0 0 (name_value s x) (address_safe 0 s x) (omega arith)
  holds s (Word a) i =
      holds_within s (announced a) (announced a) announced announced (reduce s a) Word (λ n. given (word_read s n)) (holds s a i) (λ c d t l. l)
      (λ n. holds_given s (announced a) 0 (word_read s n) (read_safe 0 s n) (omega arith))
  holds s (Unary op a) i =
      holds_within s (announced a) (announced a) announced announced (reduce s a) (Unary op) (λ n. Steps s (Number (before_word op n))) (holds s a i) (λ c d t l. l)
      (λ n. (keeps_same s, omega arith))
  holds s (Binary op a b) i =
      holds_within s (announced a) (announced a + announced b) announced announced (reduce s a) (λ t. Binary op t b)
      (λ m. within (reduce s b) (Binary op (Number m)) (λ n. given (combined s op m n))) (holds s a i) (λ c d t l. omega arith)
      (λ m. holds_within s (announced b) (announced a + announced b) announced announced (reduce s b) (Binary op (Number m)) (λ n. given (combined s op m n)) (holds s b i)
      (λ c d t l. omega arith) (λ n. holds_given s (announced a + announced b) 0 (combined s op m n) (combined_safe 0 s op m n) (omega arith)))
  holds s (Choice w a b) i =
      holds_within s (announced a) (announced a + announced b) announced announced (reduce s a) (λ t. Choice w t b) (λ n. Steps s (chosen w n b)) (holds s a i) (λ c d t l. omega arith)
      (λ n. holds_chosen s (announced a + announced b) (decides w n) _ b (omega arith))
  holds s (SetName aop x e) i = holds_left s aop x e (find s.symbols x)
  holds s (SetWord aop a e) i =
      holds_within s (announced a) (announced a + announced e) announced announced (reduce s a) (λ t. SetWord aop t e) (λ at. set_at s aop at e (reduce s e)) (holds s a i)
      (λ c d t l. omega arith) (λ at. holds_set s (announced a + announced e) aop at e (reduce s e) (holds s e i) (omega arith))
  holds s (New x e) i =
      holds_within s (announced e) (announced e + length (announcement x)) announced announced (reduce s e) (New x) (λ v. given (variable_made s x v)) (holds s e i) (λ c d t l. omega arith)
      (λ v. holds_given s (announced e + length (announcement x)) (length (announcement x)) (variable_made s x v) (variable_safe s x v i) (omega arith))
  holds s (Call f es) i =
      holds_within s (announced f) (announced f + announced_all es) announced announced (reduce s f) (λ t. Call t es)
      (λ callee. within (reduce_all s es) (Call (Number callee)) (λ vs. Calls callee (padded vs) Hole)) (holds s f i) (λ c d t l. omega arith)
      (λ callee. holds_within s (announced_all es) (announced f + announced_all es) announced_all announced (reduce_all s es) (Call (Number callee))
      (λ vs. Calls callee (padded vs) Hole) (holds_all s es i) (λ c d t l. omega arith) (λ vs. tt))
  holds s Hole i = tt

  holds_all : (s : State) (ps : Args) → IsPoolInRam s → Holds s (announced_all ps) announced_all (reduce_all s ps)
  holds_all s End i = tt
  holds_all s (Then e es) i =
      holds_within s (announced e) (announced e + announced_all es) announced announced_all (reduce s e) (λ t. Then t es)
      (λ v. within (reduce_all s es) (Then (Number v)) (λ vs. Is (v ∷ vs))) (holds s e i) (λ c d t l. omega arith)
      (λ v. holds_within s (announced_all es) (announced e + announced_all es) announced_all announced_all (reduce_all s es) (Then (Number v)) (λ vs. Is (v ∷ vs)) (holds_all s es i)
      (λ c d t l. omega arith) (λ vs. tt))

-- ---- evaluation

abbrev Ended : State → Pending → Evaluated → Type 0
Ended s p e = Writes (announced p) s e.state

ended_on : (s : State) (p : Pending) (r : Outcome ℕ Pending) (more : State → Pending → Evaluated) → Holds s (announced p) announced r →
    ((t : State) (q : Pending) → Keeps s t → Ended t q (more t q)) → Ended s p (goes_on r s more)
ended_on s p (Is v) more h go = (keeps_same s, omega arith)
ended_on s p (Calls f vs q) more h go = (keeps_same s, omega arith)
ended_on s p (Faults e) more h go = (keeps_same s, omega arith)
ended_on s p Waits more h go = (keeps_same s, omega arith)
ended_on s p (Steps t q) more (k, l) go = let (j, m) = go t q k in (keeps_then s t (more t q).state k j, omega arith)

ended_by : (n : ℕ) (s : State) (p : Pending) → IsPoolInRam s → Ended s p (reduced n s p)
ended_by zero s p i = (keeps_same s, omega arith)
ended_by (suc n) s p i = ended_on s p (reduce s p) (reduced n) (holds s p i) (λ t q k. ended_by n t q (pool_in_ram s t k i))

evaluated : (s : State) (p : Pending) → IsPoolInRam s → Ended s p (evaluate s p)
unfolding evaluate
evaluated s p i = ended_by (suc (weight p)) s p i

pub keeps : KeepsLaw
keeps s p i = (evaluated s p i).0

pub writes : OutputLaw
writes s p i = (evaluated s p i).1
