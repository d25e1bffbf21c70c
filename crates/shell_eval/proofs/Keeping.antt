-- What evaluation keeps of the state.
use Rattle.std.proofs.Common.{◌≡◌, ℕ, zero, suc, ◌+◌, ◌<◌, ◌≤◌, Bool, true, false, cond, eqb, ltb, leb, if◌then◌else◌, List, [], ◌∷◌, ◌++◌, length, replicate, Option, Some, None, Ok, Err, inl, inr, refl, sym, ap, ◌∙◌, subst, append_assoc, length-append, arith}
use Rattle.std.specs.Prelude.{◌⊎◌}
use Rattle.std.specs.List.{Contains}
use Rattle.std.proofs.lemmas.Bool.{leb-false}
use Rattle.std.proofs.lemmas.List.{append-nil, length-replicate}
use Rattle.std.proofs.lemmas.Bool.Decides.{nat_tests}
use Rattle.wind_base.specs.Limits.{most_symbols}
use Rattle.board_mem.specs.Memory.{has, with_bytes}
use Rattle.board_bus.specs.BusState.{BusState}
use Rattle.board_bus.specs.Access.{faults_at, answer_at, loaded_at, stored_at}
use Rattle.board_bus.specs.Slots.{slots_loaded}
use Rattle.board_bus.specs.Lawful.{board_lawful}
use Rattle.board_mem.proofs.Sizes.{length-with_bytes}
use Rattle.mem_partition.specs.Place.{rounded}
use Rattle.mem_partition.specs.State.{PartState, alloc_of, with_block}
use Rattle.mem_partition.specs.declared.block.Block.{Block}
use Rattle.mem_partition.specs.declared.block.Class.TheVariants.{Kernel}
use Rattle.mem_partition.proofs.Allocs.{after_is, alloc_kept, given_block}
use Rattle.symbol_table.specs.Newest.{find}
use Rattle.symbol_table.specs.declared.symbol.Symbol.{Symbol}
use Rattle.shell_parse.specs.declared.tree.BinOp.{BinOp}
use Rattle.shell_eval.specs.declared.fault.EvalFault.TheVariants.{Undefined, AccessAt, SymbolsFull}
use Rattle.shell_eval.specs.Operators.{between_words}
use Rattle.shell_eval.specs.State.{State}
use Rattle.shell_eval.specs.Words.{Tried, made, combined, combined_by, word_read, word_stored, is_value, name_by, name_word, address_by, name_value, block_of, with_block_of, with_ram, string_by, string_made, variable_bytes, announcement, variable, with_variable, variable_by, variable_made}
use Rattle.shell_eval.specs.Kept.{GoesOn, IsPoolInRam, Keeps}
use Rattle.shell_eval.proofs.Blocks.{ok_was, block_lies, block_holds}

-- ---- one state after another

on_same : {X : Type 0} (xs : List X) → GoesOn xs xs
on_same xs = ([], sym (append-nil xs))

on_on : {X : Type 0} (xs ys zs : List X) → GoesOn xs ys → GoesOn ys zs → GoesOn xs zs
on_on xs ys zs (ms, e) (ns, f) = (ms ++ ns, f ∙ (ap (λ ts. ts ++ ns) e ∙ append_assoc xs ms ns))

-- memory of the same size, with further symbols and output
keeps_on : (s : State) (m : BusState) (symbols : List Symbol) (output : List ℕ) → length m.ram ≡ length s.memory.ram → GoesOn s.symbols symbols
    → (length s.symbols ≤ most_symbols → length symbols ≤ most_symbols) → GoesOn s.output output
    → Keeps s (record s { memory = m; symbols = symbols; output = output })
keeps_on s m symbols output size more few written = record {
  ram = size;
  start = refl;
  end = refl;
  room = refl;
  stays = λ b h. h;
  added = λ b h. inl h;
  sound = λ h. h;
  symbols = more;
  few = few;
  output = written;
}

-- memory of the same size
keeps_memory : (s : State) (m : BusState) → length m.ram ≡ length s.memory.ram → Keeps s (record s { memory = m })
keeps_memory s m e = keeps_on s m s.symbols s.output e (on_same s.symbols) (λ h. h) (on_same s.output)

pub keeps_same : (s : State) → Keeps s s
keeps_same s = keeps_memory s s.memory refl

added_twice : (s t u : State) → Keeps s t → Keeps t u → (b : Block) → Contains u.pool.blocks b → Contains s.pool.blocks b ⊎ (b.class ≡ Kernel)
added_twice s t u h k b c = elim (k.added b c) [ inl d ↦ h.added b d | inr e ↦ inr e ]

pub keeps_then : (s t u : State) → Keeps s t → Keeps t u → Keeps s u
keeps_then s t u h k = record {
  ram = k.ram ∙ h.ram;
  start = k.start ∙ h.start;
  end = k.end ∙ h.end;
  room = k.room ∙ h.room;
  stays = λ b c. k.stays b (h.stays b c);
  added = added_twice s t u h k;
  sound = λ p. k.sound (h.sound p);
  symbols = on_on s.symbols t.symbols u.symbols h.symbols k.symbols;
  few = λ p. k.few (h.few p);
  output = on_on s.output t.output u.output h.output k.output;
}

pub pool_in_ram : (s t : State) → Keeps s t → IsPoolInRam s → IsPoolInRam t
pool_in_ram s t k h = let e = k.end in let r = k.ram in omega arith

-- ---- a block more

-- if what is in one list is in another, so it is with one element more
one_on : (x : Block) (xs ys : List Block) (c : Block) → (Contains xs c → Contains ys c) → Contains (x ∷ xs) c → Contains (x ∷ ys) c
one_on x xs ys c f (zero, h, e) = (0, omega arith, e)
one_on x xs ys c f (suc k, h, e) = let (i, m, g) = f (k, omega arith, e) in (suc i, omega arith, g)

one_or : (x b : Block) (xs ys : List Block) (c : Block) → (Contains ys c → Contains xs c ⊎ (c ≡ b)) → Contains (x ∷ ys) c → Contains (x ∷ xs) c ⊎ (c ≡ b)
one_or x b xs ys c f (zero, h, e) = inl (0, omega arith, e)
one_or x b xs ys c f (suc k, h, e) = elim (f (k, omega arith, e)) [
  | inl d ↦ let (j, l, g) = d in inl (suc j, omega arith, g)
  | inr g ↦ inr g
]

first_or : (b : Block) (xs : List Block) (c : Block) → Contains (b ∷ xs) c → Contains xs c ⊎ (c ≡ b)
first_or b xs c (zero, h, e) = inr (sym e)
first_or b xs c (suc k, h, e) = inl (k, omega arith, e)

with_stays : (b : Block) (bs : List Block) (c : Block) → Contains bs c → Contains (with_block b bs) c
with_stays b [] c (k, h, e) = absurd (omega arith)
with_stays b (x ∷ xs) c (k, h, e) = elim (ltb b.addr x.addr) as (λ t. Contains (cond t (b ∷ x ∷ xs) (x ∷ with_block b xs)) c) [
  | true ↦ (suc k, omega arith, e)
  | false ↦ one_on x xs (with_block b xs) c (with_stays b xs c) (k, h, e)
]

with_added : (b : Block) (bs : List Block) (c : Block) → Contains (with_block b bs) c → Contains bs c ⊎ (c ≡ b)
with_added b [] c h = first_or b [] c h
with_added b (x ∷ xs) c h = elim (ltb b.addr x.addr) as (λ t. Contains (cond t (b ∷ x ∷ xs) (x ∷ with_block b xs)) c → Contains (x ∷ xs) c ⊎ (c ≡ b)) [
  | true ↦ first_or b (x ∷ xs) c
  | false ↦ one_or x b xs (with_block b xs) c (with_added b xs c)
] h

-- the pool with one more Kernel block, at the address where it is allocated
pool_is : (p : PartState) (n at : ℕ) → block_of p n ≡ Some at → with_block_of p n ≡ record p { blocks = with_block (given_block n at Kernel) p.blocks }
pool_is p n at e = after_is p n 1 at Kernel (ok_was (alloc_of p n 1) at e)

more_blocks : (b : Block) (bs : List Block) (c : Block) → b.class ≡ Kernel → Contains (with_block b bs) c → Contains bs c ⊎ (c.class ≡ Kernel)
more_blocks b bs c k h = elim (with_added b bs c h) [ inl d ↦ inl d | inr e ↦ inr (ap (λ (x : Block). x.class) e ∙ k) ]

keeps_block : (s : State) (n at : ℕ) (m : BusState) → block_of s.pool n ≡ Some at → length m.ram ≡ length s.memory.ram →
    Keeps s (record s { pool = with_block_of s.pool n; memory = m })
keeps_block s n at m e l =
    let q : with_block_of s.pool n ≡ record s.pool { blocks = with_block (given_block n at Kernel) s.pool.blocks } = pool_is s.pool n at e in
    record {
      ram = l;
      start = ap (λ (p : PartState). p.start) q;
      end = ap (λ (p : PartState). p.end) q;
      room = ap (λ (p : PartState). p.room) q;
      stays = λ b h. subst (λ (p : PartState). Contains p.blocks b) (sym q) (with_stays (given_block n at Kernel) s.pool.blocks b h);
      added = λ b h. more_blocks (given_block n at Kernel) s.pool.blocks b refl (subst (λ (p : PartState). Contains p.blocks b) q h);
      sound = λ h. alloc_kept s.pool n 1 Kernel h;
      symbols = on_same s.symbols;
      few = λ h. h;
      output = on_same s.output;
    }

-- a symbol more, and a text
keeps_symbol : (s : State) (y : Symbol) (text : List ℕ) → length s.symbols < most_symbols → Keeps s (record s { symbols = s.symbols ++ y ∷ []; output = s.output ++ text })
keeps_symbol s y text h =
    keeps_on s s.memory (s.symbols ++ y ∷ []) (s.output ++ text) refl (y ∷ [], refl) (λ k. (omega (arith, length-append s.symbols (y ∷ [])))) (text, refl)

-- ---- what is tried

-- it keeps the state, and writes at most n bytes
abbrev pub Writes : ℕ → State → State → Type 0
Writes n s t = Keeps s t × (length t.output ≤ length s.output + n)

abbrev pub Safe : ℕ → State → Tried → Type 0
Safe n s (Ok m) = Writes n s m.state
Safe n s (Err f) = Unit {0}

safe_same : (n : ℕ) (s : State) (w : ℕ) → Safe n s (made w s)
safe_same n s w = (keeps_same s, omega arith)

loaded_length : (b : BusState) (at : ℕ) → length (loaded_at b 4 at).ram ≡ length b.ram
loaded_length b at = go (has b.ram at 4) where
  go : (t : Bool) → length (if t then b else record b { slots = slots_loaded b.slots 4 at }).ram ≡ length b.ram
  go true = refl
  go false = refl

-- two numbers are equal if the same numbers are below them
same_below : (m n : ℕ) → ((a : ℕ) → ltb a m ≡ ltb a n) → m ≡ n
same_below m n f = let p = f m in let q = f n in grind (arith, nat_tests)

stored_length : (b : BusState) (at v : ℕ) → faults_at b 4 at ≡ false → length (stored_at b 4 at v).ram ≡ length b.ram
stored_length b at v h = same_below (length (stored_at b 4 at v).ram) (length b.ram) (λ a. board_lawful.store_keeps b 4 at v a h)

pub read_safe : (n : ℕ) (s : State) (at : ℕ) → Safe n s (word_read s at)
unfolding word_read
read_safe n s at = elim (faults_at s.memory 4 at) as (λ t. Safe n s (if t then Err (AccessAt at) else made (answer_at s.memory 4 at) (record s { memory = loaded_at s.memory 4 at }))) [
  | true ↦ tt
  | false ↦ (keeps_memory s (loaded_at s.memory 4 at) (loaded_length s.memory at), omega arith)
]

pub stored_safe : (n : ℕ) (s : State) (at v : ℕ) → Safe n s (word_stored s at v)
unfolding word_stored
stored_safe n s at v = elim (faults_at s.memory 4 at) as (λ t. faults_at s.memory 4 at ≡ t → Safe n s (if t then Err (AccessAt at) else made v (record s { memory = stored_at s.memory 4 at v }))) [
  | true ↦ λ e. tt
  | false ↦ λ e. (keeps_memory s (stored_at s.memory 4 at v) (stored_length s.memory at v e), omega arith)
] refl

value_safe : (n : ℕ) (s : State) (b : Bool) (at : ℕ) → Safe n s (if b then made at s else word_read s at)
value_safe n s true at = safe_same n s at
value_safe n s false at = read_safe n s at

pub name_safe : (n : ℕ) (s : State) (x : List ℕ) → Safe n s (name_word s x)
unfolding name_word
name_safe n s x = go (find s.symbols x) where
  go : (y : Option Symbol) → Safe n s (name_by s x y)
  go None = tt
  go (Some y) = value_safe n s (is_value y.kind) y.value

pub address_safe : (n : ℕ) (s : State) (x : List ℕ) → Safe n s (name_value s x)
unfolding name_value
address_safe n s x = go (find s.symbols x) where
  go : (y : Option Symbol) → Safe n s (address_by s x y)
  go None = tt
  go (Some y) = safe_same n s y.value

pub string_safe : (n : ℕ) (s : State) (text : List ℕ) → IsPoolInRam s → Safe n s (string_made s text)
unfolding string_made
string_safe n s text inside = go (block_of s.pool (length text + 1)) refl where
  go : (at : Option ℕ) → block_of s.pool (length text + 1) ≡ at → Safe n s (string_by s text at)
  go None e = tt
  go (Some at) e =
      let high = block_holds s.pool (length text + 1) at e in
      let l : length (with_bytes s.memory.ram at (text ++ 0 ∷ [])) ≡ length s.memory.ram =
      length-with_bytes s.memory.ram at (text ++ 0 ∷ []) (omega (arith, length-append text (0 ∷ []))) in
      (keeps_block s (length text + 1) at (with_ram s.memory at (text ++ 0 ∷ [])) e l, omega arith)

-- what is safe after an operation that keeps the state
safe_after : (n m : ℕ) (s t : State) (r : Tried) → Writes n s t → Safe m t r → Safe (n + m) s r
safe_after n m s t (Err f) h k = tt
safe_after n m s t (Ok a) (h, l) (k, g) = (keeps_then s t a.state h k, omega arith)

at_most : (n : ℕ) (s : State) (r : Tried) → Safe (n + 0) s r → Safe n s r
at_most n s (Ok m) (k, l) = (k, omega arith)
at_most n s (Err f) h = tt

variable_by_safe : (s : State) (x : List ℕ) (v : ℕ) → IsPoolInRam s → length s.symbols < most_symbols → (at : Option ℕ) → block_of s.pool variable_bytes ≡ at →
    Safe (length (announcement x)) s (variable_by s x v at)
variable_by_safe s x v inside few None e = tt
variable_by_safe s x v inside few (Some at) e =
    let high = block_lies s.pool variable_bytes at e in
    let zeros : List ℕ = replicate (rounded variable_bytes) 0 in
    let l : length (with_bytes s.memory.ram at zeros) ≡ length s.memory.ram =
    length-with_bytes s.memory.ram at zeros (omega (arith, length-replicate {A = ℕ} (rounded variable_bytes) 0)) in
    let t : State = record s { pool = with_block_of s.pool variable_bytes; memory = with_ram s.memory at zeros } in
    let one : Keeps s t = keeps_block s variable_bytes at (with_ram s.memory at zeros) e l in
    let two : Keeps t (with_variable s x at) = keeps_symbol t (variable x at) (announcement x) few in
    let written : length (s.output ++ announcement x) ≡ length s.output + length (announcement x) = length-append s.output (announcement x) in
    let both : Writes (length (announcement x)) s (with_variable s x at) = (keeps_then s t (with_variable s x at) one two, omega arith) in
    at_most (length (announcement x)) s (word_stored (with_variable s x at) at v)
    (safe_after (length (announcement x)) 0 s (with_variable s x at) (word_stored (with_variable s x at) at v) both (stored_safe 0 (with_variable s x at) at v))

pub variable_safe : (s : State) (x : List ℕ) (v : ℕ) → IsPoolInRam s → Safe (length (announcement x)) s (variable_made s x v)
unfolding variable_made
variable_safe s x v inside = elim (eqb (length x) 0) as (λ b. Safe (length (announcement x)) s
    (if b then Err (Undefined x) else (if leb most_symbols (length s.symbols) then Err SymbolsFull else variable_by s x v (block_of s.pool variable_bytes)))) [
      | true ↦ tt
      | false ↦
          elim (leb most_symbols (length s.symbols)) as (λ t. leb most_symbols (length s.symbols) ≡ t →
          Safe (length (announcement x)) s (if t then Err SymbolsFull else variable_by s x v (block_of s.pool variable_bytes))) [
            | true ↦ λ e. tt
            | false ↦ λ e. variable_by_safe s x v inside (leb-false most_symbols (length s.symbols) e) (block_of s.pool variable_bytes) refl
          ] refl
    ]

pub combined_safe : (n : ℕ) (s : State) (op : BinOp) (a b : ℕ) → Safe n s (combined s op a b)
combined_safe n s op a b = go (between_words op a b) where
  go : (v : Option ℕ) → Safe n s (combined_by s v)
  go None = tt
  go (Some v) = safe_same n s v
