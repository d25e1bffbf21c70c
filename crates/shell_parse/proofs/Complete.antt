-- What the grammar finds in the first tokens is what is read from them.
use Rattle.std.proofs.Common.{◌≡◌, ℕ, zero, suc, ◌+◌, ◌*◌, ◌<◌, ◌≤◌, List, [], ◌∷◌, length, Option, Some, None, refl, sym, subst, ◌∙◌, ap, arith, ne_eqb, eq-eqb}
use Rattle.std.specs.Prelude.{if◌then◌else◌}
use Rattle.shell_parse.specs.declared.tree.BinOp.{BinOp}
use Rattle.shell_parse.specs.declared.tree.BinOp.TheVariants.{Times}
use Rattle.shell_parse.specs.declared.tree.UnOp.TheVariants as before
use Rattle.shell_parse.specs.declared.token.Token.{Token}
use Rattle.shell_parse.specs.declared.token.Token.TheVariants.{Name, Operator, Set, Open, Close, Comma, Semi}
use Rattle.shell_parse.specs.Levels.{level_of, levels}
use Rattle.shell_parse.specs.Trees.{PlainTree, Arguments, Then}
use Rattle.shell_parse.specs.Trees as trees
use Rattle.shell_parse.specs.Grammar.{Expression, plain, set_name, set_word, Level, operand, level, More, stop, operator, Unary, negated, inverted, complement, word, address, number, string, name, group, Calls, no_call, call, Args, none, some, Listed, one, next}
use Rattle.shell_parse.specs.Descent.{◌>>=◌, Reads, closed, opened, parted, assigned, mapped, operator_at, more_by, calls_by, star_by, listed_by, args_by, whole_at, climb_at, more_at, level_at, unary_at, calls_at, args_at, listed_at}
use Rattle.shell_parse.proofs.Chains.{below_ten}

-- ---- what may come after what is read
abbrev pub NotOpen : List Token → Type 0
NotOpen (Open ∷ ts) = ⊥
NotOpen _ = Unit {0}

-- after the operators of the tightest n levels: none of these operators, and no call
pub record Ends (n : ℕ) (ts : List Token) : Type 0 where
  pub no_call : NotOpen ts
  pub no_operator : (k : ℕ) → k < n → operator_at k ts ≡ None

-- after an expression, and after arguments
abbrev pub EndsWhole : List Token → Type 0
EndsWhole (Operator op ∷ ts) = ⊥
EndsWhole (Set op ∷ ts) = ⊥
EndsWhole (Open ∷ ts) = ⊥
EndsWhole _ = Unit {0}

abbrev pub EndsList : List Token → Type 0
EndsList (Operator op ∷ ts) = ⊥
EndsList (Set op ∷ ts) = ⊥
EndsList (Open ∷ ts) = ⊥
EndsList (Comma ∷ ts) = ⊥
EndsList _ = Unit {0}

whole_from_list : (ts : List Token) → EndsList ts → EndsWhole ts
whole_from_list [] h = tt
whole_from_list (Operator op ∷ ts) h = absurd h
whole_from_list (Set op ∷ ts) h = absurd h
whole_from_list (Open ∷ ts) h = absurd h
whole_from_list (t ∷ ts) h = tt

ends_whole : (n : ℕ) (ts : List Token) → EndsWhole ts → Ends n ts
ends_whole n [] h = record { no_call = tt; no_operator = λ k l. refl }
ends_whole n (Operator op ∷ ts) h = absurd h
ends_whole n (Set op ∷ ts) h = absurd h
ends_whole n (Open ∷ ts) h = absurd h
ends_whole n (t ∷ ts) h = record { no_call = tt; no_operator = λ k l. refl }

-- ---- operators of a level
same_level : (n : ℕ) (op : BinOp) (ts : List Token) → level_of op ≡ n → operator_at n (Operator op ∷ ts) ≡ Some (op, ts)
same_level n op ts h = ap (λ b. if b then Some (op, ts) else None) (eq-eqb (level_of op) n h)

other_level : (k : ℕ) (op : BinOp) (ts : List Token) → (level_of op ≡ k → ⊥) → operator_at k (Operator op ∷ ts) ≡ None
other_level k op ts h = ap (λ b. if b then Some (op, ts) else None) (ne_eqb (level_of op) k h)

-- what comes before the operators of a level ends the tighter ones
more_head : {n : ℕ} {a e : PlainTree} {mid rest : List Token} → More n a mid e rest → Ends (suc n) rest → Ends n mid
more_head stop h = record { no_call = h.no_call; no_operator = λ k l. h.no_operator k (omega arith) }
more_head (operator {op = op} {ts = ts} i u m) h = record { no_call = tt; no_operator = λ k l. other_level k op ts (λ e. omega arith) }

-- ---- reading stops
pub not_opened : (ts : List Token) → NotOpen ts → opened ts ≡ None
not_opened [] h = refl
not_opened (Open ∷ ts) h = absurd h
not_opened (t ∷ ts) h = refl

not_parted : (ts : List Token) → EndsList ts → parted ts ≡ None
not_parted [] h = refl
not_parted (Comma ∷ ts) h = absurd h
not_parted (t ∷ ts) h = refl

-- ---- nothing read is longer than its source
mutual
  pub shorter_whole : {ts rest : List Token} {e : PlainTree} → Expression ts e rest → length rest ≤ length ts
  shorter_whole (plain l) = shorter_level l
  shorter_whole (set_name w) = omega (arith, shorter_whole w)
  shorter_whole (set_word u w) = omega (arith, shorter_unary u, shorter_whole w)

  shorter_level : {n : ℕ} {ts rest : List Token} {e : PlainTree} → Level n ts e rest → length rest ≤ length ts
  shorter_level (operand u) = shorter_unary u
  shorter_level (level l m) = omega (arith, shorter_level l, shorter_more m)

  shorter_more : {n : ℕ} {ts rest : List Token} {a e : PlainTree} → More n a ts e rest → length rest ≤ length ts
  shorter_more stop = omega arith
  shorter_more (operator i l m) = omega (arith, shorter_level l, shorter_more m)

  shorter_unary : {ts rest : List Token} {e : PlainTree} → Unary ts e rest → length rest ≤ length ts
  shorter_unary (negated u) = omega (arith, shorter_unary u)
  shorter_unary (inverted u) = omega (arith, shorter_unary u)
  shorter_unary (complement u) = omega (arith, shorter_unary u)
  shorter_unary (word u) = omega (arith, shorter_unary u)
  shorter_unary address = omega arith
  shorter_unary number = omega arith
  shorter_unary string = omega arith
  shorter_unary (name c) = omega (arith, shorter_calls c)
  shorter_unary (group w c) = omega (arith, shorter_whole w, shorter_calls c)

  shorter_calls : {ts rest : List Token} {a e : PlainTree} → Calls a ts e rest → length rest ≤ length ts
  shorter_calls no_call = omega arith
  shorter_calls (call args c) = omega (arith, shorter_args args, shorter_calls c)

  shorter_args : {ts rest : List Token} {es : Arguments} → Args ts es rest → length rest ≤ length ts
  shorter_args none = omega arith
  shorter_args (some l) = omega (arith, shorter_listed l)

  pub shorter_listed : {n : ℕ} {ts rest : List Token} {es : Arguments} → Listed n ts es rest → length rest ≤ length ts
  shorter_listed (one w) = shorter_whole w
  shorter_listed (next w l) = omega (arith, shorter_whole w, shorter_listed l)

-- ---- an expression begins with a token that is neither a closing parenthesis nor a semicolon
abbrev pub Opens : List Token → Type 0
Opens [] = ⊥
Opens (Close ∷ ts) = ⊥
Opens (Semi ∷ ts) = ⊥
Opens _ = Unit {0}

unary_opens : {ts rest : List Token} {e : PlainTree} → Unary ts e rest → Opens ts
unary_opens (negated u) = tt
unary_opens (inverted u) = tt
unary_opens (complement u) = tt
unary_opens (word u) = tt
unary_opens address = tt
unary_opens number = tt
unary_opens string = tt
unary_opens (name c) = tt
unary_opens (group w c) = tt

level_opens : {n : ℕ} {ts rest : List Token} {e : PlainTree} → Level n ts e rest → Opens ts
level_opens (operand u) = unary_opens u
level_opens (level l m) = level_opens l

pub whole_opens : {ts rest : List Token} {e : PlainTree} → Expression ts e rest → Opens ts
whole_opens (plain l) = level_opens l
whole_opens (set_name w) = tt
whole_opens (set_word u w) = tt

listed_opens : {n : ℕ} {ts rest : List Token} {es : Arguments} → Listed n ts es rest → Opens ts
listed_opens (one w) = whole_opens w
listed_opens (next w l) = whole_opens w

then_closed : Reads Arguments → Reads Arguments
then_closed o = o >>= (λ es. closed es.1 >>= (λ rest. Some (es.0, rest)))

not_closed : (ts : List Token) → Opens ts → closed ts ≡ None
not_closed [] h = absurd h
not_closed (Close ∷ ts) h = absurd h
not_closed (t ∷ ts) h = refl

-- what is read first, and then the rest
pub first : {A B : Type 0} {o : Option A} {x : A} {r : Option B} (f : A → Option B) → o ≡ Some x → f x ≡ r → (o >>= f) ≡ r
first f p q = ap (λ o. o >>= f) p ∙ q

regrouped : {A B C : Type 0} (o : Option A) (f : A → Option B) (g : B → Option C) → (o >>= (λ x. f x >>= g)) ≡ ((o >>= f) >>= g)
regrouped (Some x) f g = refl
regrouped None f g = refl

-- ---- an operand that no assignment follows
pub more_stops : (n k : ℕ) (a : PlainTree) (ts : List Token) → 1 ≤ n → operator_at k ts ≡ None → more_at n k a ts ≡ Some (a, ts)
unfolding more_at
more_stops zero k a ts h e = absurd (omega arith)
more_stops (suc n) k a ts h e = ap (more_by (λ us. level_at n k us) (λ b us. more_at n k b us) a ts) e

pub climb_stops : (n k : ℕ) (a : PlainTree) (ts : List Token) → k + 2 ≤ n → ((i : ℕ) → operator_at i ts ≡ None) → climb_at n k a ts ≡ Some (a, ts)
unfolding climb_at
climb_stops zero k a ts h e = absurd (omega arith)
climb_stops (suc n) zero a ts h e = refl
climb_stops (suc n) (suc k) a ts h e = first (λ x. more_at n k x.0 x.1) (climb_stops n k a ts (omega arith) e) (more_stops n k a ts (omega arith) (e k))

not_assigned : (op : Option BinOp) (a e : PlainTree) (us rest : List Token) → EndsWhole rest → ◌≡◌ {A = Option (PlainTree × List Token)} (Some (a, Set op ∷ us)) (Some (e, rest)) → ⊥
not_assigned op a e us rest k h =
    let same : ◌≡◌ {A = PlainTree × List Token} (a, Set op ∷ us) (e, rest) = cc in
    subst (λ (ts : List Token). EndsWhole ts) (sym (ap (λ (x : PlainTree × List Token). x.1) same)) k

-- an operand read after a star, and what follows it
star_plain : (n : ℕ) (o : Reads PlainTree) (e : PlainTree) (rest : List Token) → 12 ≤ n → EndsWhole rest
    → (mapped trees.Word o >>= (λ a. climb_at n levels a.0 a.1)) ≡ Some (e, rest)
    → (o >>= (λ a. star_by (λ us. whole_at n us) (λ b us. climb_at n levels b us) a.0 a.1 (assigned a.1))) ≡ Some (e, rest)
star_plain n None e rest l k h = h
star_plain n (Some (a, [])) e rest l k h = h
star_plain n (Some (a, Set op ∷ us)) e rest l k h =
    absurd (not_assigned op (trees.Word a) e us rest k (sym (climb_stops n levels (trees.Word a) (Set op ∷ us) l (λ i. refl)) ∙ h))
star_plain n (Some (a, t ∷ us)) e rest l k h = h

-- an expression that isn't an assignment
whole_plain : (n : ℕ) (ts : List Token) (e : PlainTree) (rest : List Token) → 20 * length ts + 13 ≤ n → EndsWhole rest
    → ((m i : ℕ) → 20 * length ts + 1 ≤ m → 20 * length ts + 12 ≤ i → (unary_at m ts >>= (λ a. climb_at i levels a.0 a.1)) ≡ Some (e, rest))
    → whole_at (suc n) ts ≡ Some (e, rest)
unfolding whole_at
whole_plain zero ts e rest h k go = absurd (omega arith)
whole_plain (suc n) [] e rest h k go = go n n (omega arith) (omega arith)
whole_plain (suc n) (Name x ∷ Set op ∷ us) e rest h k go =
    absurd (not_assigned op (trees.Name x) e us rest k
    (sym (climb_stops n levels (trees.Name x) (Set op ∷ us) (omega arith) (λ i. refl)) ∙ go (suc (suc n)) n (omega arith) (omega arith)))
whole_plain (suc n) (Operator Times ∷ us) e rest h k go = star_plain n (unary_at n us) e rest (omega arith) k (go (suc n) n (omega arith) (omega arith))
whole_plain (suc n) (t ∷ us) e rest h k go = go n n (omega arith) (omega arith)

-- ---- what the grammar finds is read
mutual
  unfolding whole_at then_closed

  pub whole_complete : {ts rest : List Token} {e : PlainTree} → Expression ts e rest → (n : ℕ) → 20 * length ts + 14 ≤ n → EndsWhole rest → whole_at n ts ≡ Some (e, rest)
  whole_complete (plain l) zero h k = absurd (omega arith)
  whole_complete {ts = ts} {rest = rest} {e = e} (plain l) (suc n) h k = whole_plain n ts e rest (omega arith) k (λ m i g f. level_reads l m i g (omega arith) (ends_whole levels rest k))
  whole_complete (set_name w) zero h k = absurd (omega arith)
  whole_complete (set_name {x = x} {op = op} w) (suc n) h k = first (λ y. Some (trees.SetName op x y.0, y.1)) (whole_complete w n (omega arith) k) refl
  whole_complete (set_word u w) zero h k = absurd (omega arith)
  whole_complete (set_word u w) (suc zero) h k = absurd (omega arith)
  whole_complete (set_word {op = op} {a = a} u w) (suc (suc n)) h k =
      let s = shorter_unary u in
      first (λ y. star_by (λ us. whole_at n us) (λ b us. climb_at n levels b us) y.0 y.1 (assigned y.1)) (unary_complete u n (omega arith) tt) (first (λ y. Some (trees.SetWord op a y.0, y.1)) (whole_complete w n (omega arith) k) refl)

  level_reads : {k : ℕ} {ts rest : List Token} {e : PlainTree} → Level k ts e rest → (m n : ℕ) → 20 * length ts + 1 ≤ m → 20 * length ts + k + 2 ≤ n → Ends k rest
      → (unary_at m ts >>= (λ a. climb_at n k a.0 a.1)) ≡ Some (e, rest)
  level_reads (operand u) m zero g h k = absurd (omega arith)
  level_reads (operand u) m (suc n) g h k = first (λ a. Some (a.0, a.1)) (unary_complete u m g k.no_call) refl
  level_reads (level l r) m zero g h k = absurd (omega arith)
  level_reads {ts = ts} (level {n = i} l r) m (suc n) g h k =
      let s = shorter_level l in
      regrouped (unary_at m ts) (λ a. climb_at n i a.0 a.1) (λ b. more_at n i b.0 b.1)
      ∙ first (λ b. more_at n i b.0 b.1) (level_reads l m n g (omega arith) (more_head r k)) (more_complete r n (omega arith) k)

  more_complete : {k : ℕ} {ts rest : List Token} {a e : PlainTree} → More k a ts e rest → (n : ℕ) → 20 * length ts + 1 ≤ n → Ends (suc k) rest → more_at n k a ts ≡ Some (e, rest)
  more_complete stop zero h k = absurd (omega arith)
  more_complete {k = i} {ts = ts} {a = a} stop (suc n) h k = ap (more_by (λ us. level_at n i us) (λ b us. more_at n i b us) a ts) (k.no_operator i (omega arith))
  more_complete (operator i l m) zero h k = absurd (omega arith)
  more_complete (operator i l m) (suc zero) h k = absurd (omega arith)
  more_complete {k = i} {a = a} (operator {op = op} {ts = ts} same l m) (suc (suc n)) h k =
      let s = shorter_level l in
      let b = below_ten op in
      ap (more_by (λ us. level_at (suc n) i us) (λ b us. more_at (suc n) i b us) a (Operator op ∷ ts)) (same_level i op ts same)
      ∙ first (λ b. more_at (suc n) i (trees.Binary op a b.0) b.1) (level_reads l n n (omega arith) (omega arith) (more_head m k)) (more_complete m (suc n) (omega arith) k)

  unary_complete : {ts rest : List Token} {e : PlainTree} → Unary ts e rest → (n : ℕ) → 20 * length ts + 1 ≤ n → NotOpen rest → unary_at n ts ≡ Some (e, rest)
  unary_complete (negated u) zero h k = absurd (omega arith)
  unary_complete (negated u) (suc n) h k = first (λ x. Some (trees.Unary before.Neg x.0, x.1)) (unary_complete u n (omega arith) k) refl
  unary_complete (inverted u) zero h k = absurd (omega arith)
  unary_complete (inverted u) (suc n) h k = first (λ x. Some (trees.Unary before.Not x.0, x.1)) (unary_complete u n (omega arith) k) refl
  unary_complete (complement u) zero h k = absurd (omega arith)
  unary_complete (complement u) (suc n) h k = first (λ x. Some (trees.Unary before.Com x.0, x.1)) (unary_complete u n (omega arith) k) refl
  unary_complete (word u) zero h k = absurd (omega arith)
  unary_complete (word u) (suc n) h k = first (λ x. Some (trees.Word x.0, x.1)) (unary_complete u n (omega arith) k) refl
  unary_complete address zero h k = absurd (omega arith)
  unary_complete address (suc n) h k = refl
  unary_complete number zero h k = absurd (omega arith)
  unary_complete number (suc n) h k = refl
  unary_complete string zero h k = absurd (omega arith)
  unary_complete string (suc n) h k = refl
  unary_complete (name c) zero h k = absurd (omega arith)
  unary_complete (name c) (suc n) h k = calls_complete c n (omega arith) k
  unary_complete (group w c) zero h k = absurd (omega arith)
  unary_complete (group w c) (suc n) h k =
      let s = shorter_whole w in
      first (λ x. closed x.1 >>= (λ r. calls_at n x.0 r)) (whole_complete w n (omega arith) tt) (calls_complete c n (omega arith) k)

  calls_complete : {ts rest : List Token} {a e : PlainTree} → Calls a ts e rest → (n : ℕ) → 20 * length ts + 1 ≤ n → NotOpen rest → calls_at n a ts ≡ Some (e, rest)
  calls_complete no_call zero h k = absurd (omega arith)
  calls_complete {ts = ts} {a = a} no_call (suc n) h k = ap (calls_by (λ us. args_at n us) (λ b us. calls_at n b us) a ts) (not_opened ts k)
  calls_complete (call args c) zero h k = absurd (omega arith)
  calls_complete {a = a} (call args c) (suc n) h k =
      let s = shorter_args args in
      first (λ es. calls_at n (trees.Call a es.0) es.1) (args_complete args n (omega arith)) (calls_complete c n (omega arith) k)

  args_complete : {ts rest : List Token} {es : Arguments} → Args ts es (Close ∷ rest) → (n : ℕ) → 20 * length ts + 16 ≤ n → args_at n ts ≡ Some (es, rest)
  args_complete none zero h = absurd (omega arith)
  args_complete none (suc n) h = refl
  args_complete (some l) zero h = absurd (omega arith)
  args_complete {ts = ts} (some l) (suc n) h =
      ap (args_by (λ us. listed_at n 10 us) ts) (not_closed ts (listed_opens l)) ∙ ap then_closed (listed_complete l n (omega arith) tt)

  pub listed_complete : {most : ℕ} {ts rest : List Token} {es : Arguments} → Listed most ts es rest → (n : ℕ) → 20 * length ts + 15 ≤ n → EndsList rest → listed_at n most ts ≡ Some (es, rest)
  listed_complete (one w) zero h k = absurd (omega arith)
  listed_complete {rest = rest} (one {n = most} {e = e} w) (suc n) h k =
      first (λ x. listed_by (λ us. listed_at n most us) x.0 x.1 (parted x.1)) (whole_complete w n (omega arith) (whole_from_list rest k)) (ap (listed_by (λ us. listed_at n most us) e rest) (not_parted rest k))
  listed_complete (next w l) zero h k = absurd (omega arith)
  listed_complete (next {n = most} {e = e} w l) (suc n) h k =
      let s = shorter_whole w in
      first (λ x. listed_by (λ us. listed_at n most us) x.0 x.1 (parted x.1)) (whole_complete w n (omega arith) tt) (first (λ x. Some (Then e x.0, x.1)) (listed_complete l n (omega arith) k) refl)
