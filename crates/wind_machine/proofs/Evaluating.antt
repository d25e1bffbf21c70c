-- What no load and no store of the bus breaks, nor another content of RAM, no evaluation does.
use Rattle.std.proofs.Common.{ℕ, zero, suc, ◌+◌, Bool, true, false, if◌then◌else◌, List, ◌∷◌, length, Option, Some, None, Ok, Err, eqb, leb}
use Rattle.wind_base.specs.Limits.{most_symbols}
use Rattle.board_bus.specs.BusState.{BusState}
use Rattle.board_bus.specs.Access.{board_meaning, faults_at, answer_at, loaded_at, stored_at}
use Rattle.symbol_table.specs.Newest.{find}
use Rattle.symbol_table.specs.declared.symbol.Symbol.{Symbol}
use Rattle.symbol_table.specs.declared.symbol.SymKind.{SymKind}
use Rattle.symbol_table.specs.declared.symbol.SymKind.TheVariants.{TextSym, DataSym, BssSym, AbsSym}
use Rattle.shell_parse.specs.declared.tree.BinOp.{BinOp}
use Rattle.shell_eval.specs.declared.fault.EvalFault.TheVariants.{Undefined, AccessAt, SymbolsFull}
use Rattle.shell_eval.specs.Operators.{before_word, between_words}
use Rattle.shell_eval.specs.State.{State}
use Rattle.shell_eval.specs.Words.{Tried, made, combined, combined_by, word_read, word_stored, is_value, name_by, name_word, address_by, name_value, block_of, string_by, string_made, variable_bytes, with_variable, variable_by, variable_made}
use Rattle.shell_eval.specs.Pending.{Pending, Number, Str, Name, Lone, Address, Word, Unary, Binary, Choice, SetName, SetWord, New, Call, Hole, Args, End, Then, weight}
use Rattle.shell_eval.specs.Reduce.{Outcome, Is, Steps, Calls, Faults, Waits, reduce, reduce_all, within, given, padded, chosen, lone_by, kind_or_data, old_read, resolved, left_by, set_at}
use Rattle.shell_eval.specs.Evaluate.{Evaluated, goes_on, reduced, evaluate}
use Rattle.wind_machine.proofs.Executing.{Lasts}

module _ (P : BusState → Type 0) (lasts : Lasts board_meaning P) (rams : (b : BusState) (ram : List ℕ) → P b → P (record b { ram = ram })) where
  -- the memory left has P, unless there is a fault
  abbrev IfMade : Tried → Type 0
  IfMade (Ok m) = P m.state.memory
  IfMade (Err e) = Unit {0}

  abbrev IfSteps : {V T : Type 0} → Outcome V T → Type 0
  IfSteps (Is v) = Unit {0}
  IfSteps (Steps t q) = P t.memory
  IfSteps (Calls f vs q) = Unit {0}
  IfSteps (Faults e) = Unit {0}
  IfSteps Waits = Unit {0}

  -- ---- names, strings, addresses and new variables
  read_lasts : (s : State) (at : ℕ) → P s.memory → IfMade (word_read s at)
  unfolding word_read
  read_lasts s at p = elim (faults_at s.memory 4 at) as (λ t. IfMade (if t then Err (AccessAt at) else made (answer_at s.memory 4 at) (record s { memory = loaded_at s.memory 4 at }))) [
    | true ↦ tt
    | false ↦ lasts.loads s.memory 4 at p
  ]

  stored_lasts : (s : State) (at v : ℕ) → P s.memory → IfMade (word_stored s at v)
  unfolding word_stored
  stored_lasts s at v p = elim (faults_at s.memory 4 at) as (λ t. IfMade (if t then Err (AccessAt at) else made v (record s { memory = stored_at s.memory 4 at v }))) [
    | true ↦ tt
    | false ↦ lasts.stores s.memory 4 at v p
  ]

  value_lasts : (s : State) (b : Bool) (at : ℕ) → P s.memory → IfMade (if b then made at s else word_read s at)
  value_lasts s true at p = p
  value_lasts s false at p = read_lasts s at p

  name_lasts : (s : State) (x : List ℕ) → P s.memory → IfMade (name_word s x)
  unfolding name_word
  name_lasts s x p = go (find s.symbols x) where
    go : (y : Option Symbol) → IfMade (name_by s x y)
    go None = tt
    go (Some y) = value_lasts s (is_value y.kind) y.value p

  address_lasts : (s : State) (x : List ℕ) → P s.memory → IfMade (name_value s x)
  unfolding name_value
  address_lasts s x p = go (find s.symbols x) where
    go : (y : Option Symbol) → IfMade (address_by s x y)
    go None = tt
    go (Some y) = p

  string_lasts : (s : State) (text : List ℕ) → P s.memory → IfMade (string_made s text)
  unfolding string_made
  string_lasts s text p = go (block_of s.pool (length text + 1)) where
    go : (at : Option ℕ) → IfMade (string_by s text at)
    go None = tt
    go (Some at) = rams s.memory _ p

  variable_lasts : (s : State) (x : List ℕ) (v : ℕ) → P s.memory → IfMade (variable_made s x v)
  unfolding variable_made
  variable_lasts s x v p = elim (eqb (length x) 0) as (λ b. IfMade (if b then Err (Undefined x) else (if leb most_symbols (length s.symbols) then Err SymbolsFull else variable_by s x v (block_of s.pool variable_bytes)))) [
    | true ↦ tt
    | false ↦ elim (leb most_symbols (length s.symbols)) as (λ b. IfMade (if b then Err SymbolsFull else variable_by s x v (block_of s.pool variable_bytes))) [ true ↦ tt | false ↦ go (block_of s.pool variable_bytes) ]
  ] where
    go : (at : Option ℕ) → IfMade (variable_by s x v at)
    go None = tt
    go (Some at) = stored_lasts (with_variable s x at) at v (rams s.memory _ p)

  combined_lasts : (s : State) (op : BinOp) (a b : ℕ) → P s.memory → IfMade (combined s op a b)
  combined_lasts s op a b p = go (between_words op a b) where
    go : (o : Option ℕ) → IfMade (combined_by s o)
    go None = tt
    go (Some n) = p

  -- ---- a reduction
  within_lasts : {V T W U : Type 0} (r : Outcome V T) (around : T → U) (go : V → Outcome W U) → IfSteps r → ((v : V) → IfSteps (go v)) → IfSteps (within r around go)
  within_lasts (Is v) around go h f = f v
  within_lasts (Steps t q) around go h f = h
  within_lasts (Calls c vs t) around go h f = tt
  within_lasts (Faults e) around go h f = tt
  within_lasts Waits around go h f = tt

  given_lasts : (r : Tried) → IfMade r → IfSteps (given r)
  given_lasts (Ok m) h = h
  given_lasts (Err e) h = tt

  old_lasts : (op : BinOp) (at : ℕ) (e : Pending) (r : Tried) → IfMade r → IfSteps (old_read op at e r)
  old_lasts op at e (Ok m) h = h
  old_lasts op at e (Err f) h = tt

  resolved_lasts : (s : State) (aop : Option BinOp) (at : ℕ) (e : Pending) → P s.memory → IfSteps (resolved s aop at e)
  resolved_lasts s None at e p = p
  resolved_lasts s (Some op) at e p = old_lasts op at e (word_read s at) (read_lasts s at p)

  kind_lasts : (b : Bool) (s : State) (aop : Option BinOp) (at : ℕ) (e : Pending) → P s.memory → IfSteps (if b then Faults (AccessAt at) else resolved s aop at e)
  kind_lasts true s aop at e p = tt
  kind_lasts false s aop at e p = resolved_lasts s aop at e p

  left_lasts : (s : State) (aop : Option BinOp) (x : List ℕ) (e : Pending) (y : Option Symbol) → P s.memory → IfSteps (left_by s aop x e y)
  left_lasts s None x e None p = p
  left_lasts s (Some op) x e None p = tt
  left_lasts s None x e (Some y) p = kind_lasts (is_value y.kind) s None y.value e p
  left_lasts s (Some op) x e (Some y) p = kind_lasts (is_value y.kind) s (Some op) y.value e p

  lone_lasts : (s : State) (x : List ℕ) (y : Option Symbol) (k : SymKind) → P s.memory → IfSteps (lone_by s x y k)
  lone_lasts s x (Some y) TextSym p = p
  lone_lasts s x (Some y) DataSym p = given_lasts (name_word s x) (name_lasts s x p)
  lone_lasts s x (Some y) BssSym p = given_lasts (name_word s x) (name_lasts s x p)
  lone_lasts s x (Some y) AbsSym p = given_lasts (name_word s x) (name_lasts s x p)
  lone_lasts s x None k p = given_lasts (name_word s x) (name_lasts s x p)

  set_lasts : (s : State) (aop : Option BinOp) (at : ℕ) (e : Pending) (r : Outcome ℕ Pending) → P s.memory → IfSteps r → IfSteps (set_at s aop at e r)
  set_lasts s None at e r p h = within_lasts r (SetWord None (Number at)) (λ v. given (word_stored s at v)) h (λ v. given_lasts (word_stored s at v) (stored_lasts s at v p))
  set_lasts s (Some op) at e r p h = old_lasts op at e (word_read s at) (read_lasts s at p)

  mutual
    reduce_lasts : (s : State) (e : Pending) → P s.memory → IfSteps (reduce s e)
    reduce_lasts s (Number n) p = tt
    reduce_lasts s (Str b) p = given_lasts (string_made s b) (string_lasts s b p)
    reduce_lasts s (Name x) p = given_lasts (name_word s x) (name_lasts s x p)
    reduce_lasts s (Lone x) p = lone_lasts s x (find s.symbols x) (kind_or_data (find s.symbols x)) p
    reduce_lasts s (Address x) p = given_lasts (name_value s x) (address_lasts s x p)
    reduce_lasts s (Word a) p = within_lasts (reduce s a) Word (λ n. given (word_read s n)) (reduce_lasts s a p) (λ n. given_lasts (word_read s n) (read_lasts s n p))
    reduce_lasts s (Unary op a) p = within_lasts (reduce s a) (Unary op) (λ n. Steps s (Number (before_word op n))) (reduce_lasts s a p) (λ n. p)
    reduce_lasts s (Binary op a b) p =
        within_lasts (reduce s a) (λ t. Binary op t b) (λ m. within (reduce s b) (Binary op (Number m)) (λ n. given (combined s op m n))) (reduce_lasts s a p)
        (λ m. within_lasts (reduce s b) (Binary op (Number m)) (λ n. given (combined s op m n)) (reduce_lasts s b p) (λ n. given_lasts (combined s op m n) (combined_lasts s op m n p)))
    reduce_lasts s (Choice w a b) p = within_lasts (reduce s a) (λ t. Choice w t b) (λ n. Steps s (chosen w n b)) (reduce_lasts s a p) (λ n. p)
    reduce_lasts s (SetName aop x e) p = left_lasts s aop x e (find s.symbols x) p
    reduce_lasts s (SetWord aop a e) p =
        within_lasts (reduce s a) (λ t. SetWord aop t e) (λ at. set_at s aop at e (reduce s e)) (reduce_lasts s a p) (λ at. set_lasts s aop at e (reduce s e) p (reduce_lasts s e p))
    reduce_lasts s (New x e) p = within_lasts (reduce s e) (New x) (λ v. given (variable_made s x v)) (reduce_lasts s e p) (λ v. given_lasts (variable_made s x v) (variable_lasts s x v p))
    reduce_lasts s (Call f es) p =
        within_lasts (reduce s f) (λ t. Call t es) (λ callee. within (reduce_all s es) (Call (Number callee)) (λ vs. Calls callee (padded vs) Hole)) (reduce_lasts s f p)
        (λ callee. within_lasts (reduce_all s es) (Call (Number callee)) (λ vs. Calls callee (padded vs) Hole) (all_last s es p) (λ vs. tt))
    reduce_lasts s Hole p = tt

    all_last : (s : State) (es : Args) → P s.memory → IfSteps (reduce_all s es)
    all_last s End p = tt
    all_last s (Then e es) p =
        within_lasts (reduce s e) (λ t. Then t es) (λ v. within (reduce_all s es) (Then (Number v)) (λ vs. Is (v ∷ vs))) (reduce_lasts s e p)
        (λ v. within_lasts (reduce_all s es) (Then (Number v)) (λ vs. Is (v ∷ vs)) (all_last s es p) (λ vs. tt))

  -- ---- evaluation
  goes_last : (s : State) (r : Outcome ℕ Pending) (more : State → Pending → Evaluated) → P s.memory → IfSteps r → ((t : State) (q : Pending) → P t.memory → P (more t q).state.memory) → P (goes_on r s more).state.memory
  goes_last s (Is v) more p h go = p
  goes_last s (Steps t q) more p h go = go t q h
  goes_last s (Calls f vs q) more p h go = p
  goes_last s (Faults e) more p h go = p
  goes_last s Waits more p h go = p

  reduced_lasts : (n : ℕ) (s : State) (e : Pending) → P s.memory → P (reduced n s e).state.memory
  reduced_lasts zero s e p = p
  reduced_lasts (suc n) s e p = goes_last s (reduce s e) (reduced n) p (reduce_lasts s e p) (λ t q h. reduced_lasts n t q h)

  pub evaluating_lasts : (s : State) (e : Pending) → P s.memory → P (evaluate s e).state.memory
  unfolding evaluate
  evaluating_lasts s e p = reduced_lasts (suc (weight e)) s e p
