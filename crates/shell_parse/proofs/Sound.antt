-- What is read from the first tokens is what the grammar finds in them.
use Rattle.std.proofs.Common.{◌≡◌, ℕ, zero, suc, Bool, true, false, List, [], ◌∷◌, Option, Some, None, refl, subst, sym, ap}
use Rattle.std.specs.Prelude.{if◌then◌else◌, ◌==◌}
use Rattle.std.proofs.lemmas.Bool.{eqb-true}
use Rattle.shell_parse.specs.declared.tree.BinOp.{BinOp}
use Rattle.shell_parse.specs.declared.tree.BinOp.TheVariants.{Minus, Times, And}
use Rattle.shell_parse.specs.declared.tree.UnOp.TheVariants as before
use Rattle.shell_parse.specs.declared.token.Token.{Token}
use Rattle.shell_parse.specs.declared.token.Token.TheVariants.{Number, Str, Name, Operator, Set, Not, Com, Open, Close, Comma}
use Rattle.shell_parse.specs.Levels.{level_of, levels}
use Rattle.shell_parse.specs.Trees.{PlainTree, Arguments, Then}
use Rattle.shell_parse.specs.Trees as trees
use Rattle.shell_parse.specs.Grammar.{Expression, plain, set_name, set_word, Level, More, stop, operator, Unary, negated, inverted, complement, word, address, number, string, name, group, Calls, no_call, call, Args, none, some, Listed, one, next}
use Rattle.shell_parse.specs.Descent.{◌>>=◌, Reads, closed, opened, parted, starred, named, assigned, name_assigned, operator_at, more_by, calls_by, star_by, whole_by, listed_by, args_by, whole_at, star_at, climb_at, more_at, level_at, unary_at, calls_at, args_at, listed_at}
use Rattle.shell_parse.proofs.Chains.{Climb, flat, up, climb_level}

-- ---- what is read in two steps
pub bind_some : {A B : Type 0} (o : Option A) (f : A → Option B) {y : B} → (o >>= f) ≡ Some y → (x : A) × ((o ≡ Some x) × (f x ≡ Some y))
bind_some (Some x) f h = (x, (refl, h))
bind_some None f h = cc

pub pair_is : {X Y : Type 0} (P : X → Y → Type 0) {a x : X} {b y : Y} → ◌≡◌ {A = Option (X × Y)} (Some (a, b)) (Some (x, y)) → P a b → P x y
pair_is {X = X} {Y = Y} P {a = a} {x = x} {b = b} {y = y} h p =
    let e : ◌≡◌ {A = X × Y} (a, b) (x, y) = cc in
    subst (λ (q : X × Y). P q.0 q.1) e p

-- ---- what the tokens begin with
closed_is : (ts mid : List Token) → closed ts ≡ Some mid → ts ≡ Close ∷ mid
closed_is [] mid h = cc
closed_is (Close ∷ ts) mid h = cc
closed_is (t ∷ ts) mid h = cc

opened_is : (ts mid : List Token) → opened ts ≡ Some mid → ts ≡ Open ∷ mid
opened_is [] mid h = cc
opened_is (Open ∷ ts) mid h = cc
opened_is (t ∷ ts) mid h = cc

parted_is : (ts mid : List Token) → parted ts ≡ Some mid → ts ≡ Comma ∷ mid
parted_is [] mid h = cc
parted_is (Comma ∷ ts) mid h = cc
parted_is (t ∷ ts) mid h = cc

starred_is : (ts mid : List Token) → starred ts ≡ Some mid → ts ≡ Operator Times ∷ mid
starred_is [] mid h = cc
starred_is (Operator Times ∷ ts) mid h = cc
starred_is (t ∷ ts) mid h = cc

named_is : (ts : List Token) (x : List ℕ) (mid : List Token) → named ts ≡ Some (x, mid) → ts ≡ Name x ∷ mid
named_is [] x mid h = cc
named_is (Name y ∷ ts) x mid h = pair_is (λ z us. Name y ∷ ts ≡ Name z ∷ us) h refl
named_is (t ∷ ts) x mid h = cc

assigned_is : (ts : List Token) (op : Option BinOp) (mid : List Token) → assigned ts ≡ Some (op, mid) → ts ≡ Set op ∷ mid
assigned_is [] op mid h = cc
assigned_is (Set o ∷ ts) op mid h = pair_is (λ z us. Set o ∷ ts ≡ Set z ∷ us) h refl
assigned_is (t ∷ ts) op mid h = cc

of_level : (n : ℕ) (o : BinOp) (ts : List Token) (op : BinOp) (mid : List Token) (b : Bool) → (level_of o == n) ≡ b → ◌≡◌ {A = Reads BinOp} (if b then Some (o, ts) else None) (Some (op, mid))
    → (level_of op ≡ n) × (Operator o ∷ ts ≡ Operator op ∷ mid)
of_level n o ts op mid true p h = pair_is (λ x us. (level_of x ≡ n) × (Operator o ∷ ts ≡ Operator x ∷ us)) h (eqb-true (level_of o) n p, refl)
of_level n o ts op mid false p h = cc

operator_is : (n : ℕ) (ts : List Token) (op : BinOp) (mid : List Token) → operator_at n ts ≡ Some (op, mid) → (level_of op ≡ n) × (ts ≡ Operator op ∷ mid)
operator_is n [] op mid h = cc
operator_is n (Operator o ∷ ts) op mid h = of_level n o ts op mid (level_of o == n) refl h
operator_is n (t ∷ ts) op mid h = cc

-- ---- parts of the mutual proof, which take the other parts as arguments
more_goes_on : (n k : ℕ) (a : PlainTree) (ts : List Token) (e : PlainTree) (rest : List Token)
    → ((us : List Token) (b : PlainTree) (r : List Token) → level_at n k us ≡ Some (b, r) → Level k us b r)
    → ((b : PlainTree) (us : List Token) (d : PlainTree) (r : List Token) → more_at n k b us ≡ Some (d, r) → More k b us d r)
    → (o : Reads BinOp) → operator_at k ts ≡ o → more_by (λ us. level_at n k us) (λ b us. more_at n k b us) a ts o ≡ Some (e, rest) → More k a ts e rest
more_goes_on n k a ts e rest right go None p h = pair_is (λ x y. More k a ts x y) h stop
more_goes_on n k a ts e rest right go (Some (op, us)) p h =
    let b = bind_some (level_at n k us) (λ b. more_at n k (trees.Binary op a b.0) b.1) h in
    let i = operator_is k ts op us p in
    subst (λ vs. More k a vs e rest) (sym i.1) (operator i.0 (right us b.0.0 b.0.1 b.1.0) (go (trees.Binary op a b.0.0) b.0.1 e rest b.1.1))

star_goes_on : (n : ℕ) (a : PlainTree) (vs ts : List Token) (e : PlainTree) (rest : List Token)
    → ((us : List Token) (b : PlainTree) (r : List Token) → whole_at n us ≡ Some (b, r) → Expression us b r)
    → ((b : PlainTree) (us : List Token) (d : PlainTree) (r : List Token) → climb_at n levels b us ≡ Some (d, r) → Climb levels b us d r)
    → Unary vs a ts → (o : Reads (Option BinOp)) → assigned ts ≡ o → star_by (λ us. whole_at n us) (λ b us. climb_at n levels b us) a ts o ≡ Some (e, rest)
    → Expression (Operator Times ∷ vs) e rest
star_goes_on n a vs ts e rest whole climb u None p h = plain (climb_level (word u) (climb (trees.Word a) ts e rest h))
star_goes_on n a vs ts e rest whole climb u (Some (op, us)) p h =
    let b = bind_some (whole_at n us) (λ x. Some (trees.SetWord op a x.0, x.1)) h in
    pair_is (λ x y. Expression (Operator Times ∷ vs) x y) b.1.1 (set_word (subst (λ ws. Unary vs a ws) (assigned_is ts op us p) u) (whole us b.0.0 b.0.1 b.1.0))

left_is : (ts : List Token) (x : List ℕ) (op : Option BinOp) (us : List Token) → name_assigned ts ≡ Some (x, op, us) → ts ≡ Name x ∷ Set op ∷ us
left_is [] x op us h = cc
left_is (Name y ∷ []) x op us h = cc
left_is (Name y ∷ Set o ∷ ts) x op us h =
    let e : ◌≡◌ {A = List ℕ × Option BinOp × List Token} (y, o, ts) (x, op, us) = cc in
    ap (λ (z : List ℕ × Option BinOp × List Token). Name z.0 ∷ Set z.1 ∷ z.2) e
left_is (Name y ∷ t ∷ ts) x op us h = cc
left_is (t ∷ ts) x op us h = cc

whole_goes_on : (n : ℕ) (ts : List Token) (e : PlainTree) (rest : List Token)
    → ((us : List Token) (b : PlainTree) (r : List Token) → whole_at n us ≡ Some (b, r) → Expression us b r)
    → ((us : List Token) (b : PlainTree) (r : List Token) → star_at n us ≡ Some (b, r) → Expression (Operator Times ∷ us) b r)
    → ((us : List Token) (b : PlainTree) (r : List Token) → level_at n levels us ≡ Some (b, r) → Level levels us b r)
    → (left : Option (List ℕ × Option BinOp × List Token)) (after : Option (List Token)) → name_assigned ts ≡ left → starred ts ≡ after
    → whole_by (λ us. whole_at n us) (λ us. star_at n us) (λ us. level_at n levels us) ts left after ≡ Some (e, rest) → Expression ts e rest
whole_goes_on n ts e rest whole star operands (Some (x, op, us)) after p q h =
    let b = bind_some (whole_at n us) (λ y. Some (trees.SetName op x y.0, y.1)) h in
    subst (λ vs. Expression vs e rest) (sym (left_is ts x op us p)) (pair_is (λ y z. Expression (Name x ∷ Set op ∷ us) y z) b.1.1 (set_name (whole us b.0.0 b.0.1 b.1.0)))
whole_goes_on n ts e rest whole star operands None (Some us) p q h = subst (λ vs. Expression vs e rest) (sym (starred_is ts us q)) (star us e rest h)
whole_goes_on n ts e rest whole star operands None None p q h = plain (operands ts e rest h)

calls_go_on : (n : ℕ) (a : PlainTree) (ts : List Token) (e : PlainTree) (rest : List Token)
    → ((us : List Token) (es : Arguments) (r : List Token) → args_at n us ≡ Some (es, r) → Args us es (Close ∷ r))
    → ((b : PlainTree) (us : List Token) (d : PlainTree) (r : List Token) → calls_at n b us ≡ Some (d, r) → Calls b us d r)
    → (o : Option (List Token)) → opened ts ≡ o → calls_by (λ us. args_at n us) (λ b us. calls_at n b us) a ts o ≡ Some (e, rest) → Calls a ts e rest
calls_go_on n a ts e rest args go None p h = pair_is (λ x y. Calls a ts x y) h no_call
calls_go_on n a ts e rest args go (Some us) p h =
    let b = bind_some (args_at n us) (λ es. calls_at n (trees.Call a es.0) es.1) h in
    subst (λ vs. Calls a vs e rest) (sym (opened_is ts us p)) (call (args us b.0.0 b.0.1 b.1.0) (go (trees.Call a b.0.0) b.0.1 e rest b.1.1))

listed_goes_on : (n k : ℕ) (ts : List Token) (e : PlainTree) (mid : List Token) (es : Arguments) (rest : List Token)
    → ((us : List Token) (xs : Arguments) (r : List Token) → listed_at n k us ≡ Some (xs, r) → Listed k us xs r)
    → Expression ts e mid → (o : Option (List Token)) → parted mid ≡ o → listed_by (λ us. listed_at n k us) e mid o ≡ Some (es, rest) → Listed (suc k) ts es rest
listed_goes_on n k ts e mid es rest go w None p h = pair_is (λ x y. Listed (suc k) ts x y) h (one w)
listed_goes_on n k ts e mid es rest go w (Some us) p h =
    let b = bind_some (listed_at n k us) (λ x. Some (Then e x.0, x.1)) h in
    pair_is (λ x y. Listed (suc k) ts x y) b.1.1 (next (subst (λ vs. Expression ts e vs) (parted_is mid us p) w) (go us b.0.0 b.0.1 b.1.0))

args_go_on : (n : ℕ) (ts : List Token) (es : Arguments) (rest : List Token)
    → ((us : List Token) (xs : Arguments) (r : List Token) → listed_at n 10 us ≡ Some (xs, r) → Listed 10 us xs r)
    → (o : Option (List Token)) → closed ts ≡ o → args_by (λ us. listed_at n 10 us) ts o ≡ Some (es, rest) → Args ts es (Close ∷ rest)
args_go_on n ts es rest listed (Some us) p h = subst (λ vs. Args vs es (Close ∷ rest)) (sym (closed_is ts us p)) (pair_is (λ x y. Args (Close ∷ us) x (Close ∷ y)) h none)
args_go_on n ts es rest listed None p h =
    let b = bind_some (listed_at n 10 ts) (λ x. closed x.1 >>= (λ r. Some (x.0, r))) h in
    let d = bind_some (closed b.0.1) (λ r. Some (b.0.0, r)) b.1.1 in
    pair_is (λ x y. Args ts x (Close ∷ y)) d.1.1 (some (subst (λ vs. Listed 10 ts b.0.0 vs) (closed_is b.0.1 d.0 d.1.0) (listed ts b.0.0 b.0.1 b.1.0)))

mutual
  unfolding whole_at

  pub whole_sound : (n : ℕ) (ts : List Token) (e : PlainTree) (rest : List Token) → whole_at n ts ≡ Some (e, rest) → Expression ts e rest
  whole_sound zero ts e rest h = cc
  whole_sound (suc n) ts e rest h =
      whole_goes_on n ts e rest (λ us b r p. whole_sound n us b r p) (λ us b r p. star_sound n us b r p) (λ us b r p. level_sound n levels us b r p) (name_assigned ts) (starred ts) refl refl h

  star_sound : (n : ℕ) (ts : List Token) (e : PlainTree) (rest : List Token) → star_at n ts ≡ Some (e, rest) → Expression (Operator Times ∷ ts) e rest
  star_sound zero ts e rest h = cc
  star_sound (suc n) ts e rest h =
      let b = bind_some (unary_at n ts) (λ a. star_by (λ us. whole_at n us) (λ c us. climb_at n levels c us) a.0 a.1 (assigned a.1)) h in
      star_goes_on n b.0.0 ts b.0.1 e rest (λ us c r p. whole_sound n us c r p) (λ c us d r p. climb_sound n levels c us d r p) (unary_sound n ts b.0.0 b.0.1 b.1.0) (assigned b.0.1) refl b.1.1

  climb_sound : (n k : ℕ) (a : PlainTree) (ts : List Token) (e : PlainTree) (rest : List Token) → climb_at n k a ts ≡ Some (e, rest) → Climb k a ts e rest
  climb_sound zero k a ts e rest h = cc
  climb_sound (suc n) zero a ts e rest h = pair_is (λ x y. Climb zero a ts x y) h flat
  climb_sound (suc n) (suc k) a ts e rest h =
      let b = bind_some (climb_at n k a ts) (λ b. more_at n k b.0 b.1) h in
      up (climb_sound n k a ts b.0.0 b.0.1 b.1.0) (more_sound n k b.0.0 b.0.1 e rest b.1.1)

  more_sound : (n k : ℕ) (a : PlainTree) (ts : List Token) (e : PlainTree) (rest : List Token) → more_at n k a ts ≡ Some (e, rest) → More k a ts e rest
  more_sound zero k a ts e rest h = cc
  more_sound (suc n) k a ts e rest h =
      more_goes_on n k a ts e rest (λ us b r p. level_sound n k us b r p) (λ b us d r p. more_sound n k b us d r p) (operator_at k ts) refl h

  level_sound : (n k : ℕ) (ts : List Token) (e : PlainTree) (rest : List Token) → level_at n k ts ≡ Some (e, rest) → Level k ts e rest
  level_sound zero k ts e rest h = cc
  level_sound (suc n) k ts e rest h =
      let b = bind_some (unary_at n ts) (λ a. climb_at n k a.0 a.1) h in
      climb_level (unary_sound n ts b.0.0 b.0.1 b.1.0) (climb_sound n k b.0.0 b.0.1 e rest b.1.1)

  unary_sound : (n : ℕ) (ts : List Token) (e : PlainTree) (rest : List Token) → unary_at n ts ≡ Some (e, rest) → Unary ts e rest
  unary_sound zero ts e rest h = cc
  unary_sound (suc n) (Operator Minus ∷ ts) e rest h =
      let b = bind_some (unary_at n ts) (λ x. Some (trees.Unary before.Neg x.0, x.1)) h in
      pair_is (λ x y. Unary (Operator Minus ∷ ts) x y) b.1.1 (negated (unary_sound n ts b.0.0 b.0.1 b.1.0))
  unary_sound (suc n) (Operator Times ∷ ts) e rest h =
      let b = bind_some (unary_at n ts) (λ x. Some (trees.Word x.0, x.1)) h in
      pair_is (λ x y. Unary (Operator Times ∷ ts) x y) b.1.1 (word (unary_sound n ts b.0.0 b.0.1 b.1.0))
  unary_sound (suc n) (Operator And ∷ ts) e rest h =
      let b = bind_some (named ts) (λ x. Some (trees.Address x.0, x.1)) h in
      pair_is (λ x y. Unary (Operator And ∷ ts) x y) b.1.1 (subst (λ us. Unary (Operator And ∷ us) (trees.Address b.0.0) b.0.1) (sym (named_is ts b.0.0 b.0.1 b.1.0)) address)
  unary_sound (suc n) (Not ∷ ts) e rest h =
      let b = bind_some (unary_at n ts) (λ x. Some (trees.Unary before.Not x.0, x.1)) h in
      pair_is (λ x y. Unary (Not ∷ ts) x y) b.1.1 (inverted (unary_sound n ts b.0.0 b.0.1 b.1.0))
  unary_sound (suc n) (Com ∷ ts) e rest h =
      let b = bind_some (unary_at n ts) (λ x. Some (trees.Unary before.Com x.0, x.1)) h in
      pair_is (λ x y. Unary (Com ∷ ts) x y) b.1.1 (complement (unary_sound n ts b.0.0 b.0.1 b.1.0))
  unary_sound (suc n) (Number v ∷ ts) e rest h = pair_is (λ x y. Unary (Number v ∷ ts) x y) h number
  unary_sound (suc n) (Str text ∷ ts) e rest h = pair_is (λ x y. Unary (Str text ∷ ts) x y) h string
  unary_sound (suc n) (Name x ∷ ts) e rest h = name (calls_sound n (trees.Name x) ts e rest h)
  unary_sound (suc n) (Open ∷ ts) e rest h =
      let b = bind_some (whole_at n ts) (λ x. closed x.1 >>= (λ r. calls_at n x.0 r)) h in
      let d = bind_some (closed b.0.1) (λ r. calls_at n b.0.0 r) b.1.1 in
      group (subst (λ us. Expression ts b.0.0 us) (closed_is b.0.1 d.0 d.1.0) (whole_sound n ts b.0.0 b.0.1 b.1.0)) (calls_sound n b.0.0 d.0 e rest d.1.1)
  unary_sound (suc n) ts e rest h = cc

  calls_sound : (n : ℕ) (a : PlainTree) (ts : List Token) (e : PlainTree) (rest : List Token) → calls_at n a ts ≡ Some (e, rest) → Calls a ts e rest
  calls_sound zero a ts e rest h = cc
  calls_sound (suc n) a ts e rest h = calls_go_on n a ts e rest (λ us xs r p. args_sound n us xs r p) (λ b us d r p. calls_sound n b us d r p) (opened ts) refl h

  args_sound : (n : ℕ) (ts : List Token) (es : Arguments) (rest : List Token) → args_at n ts ≡ Some (es, rest) → Args ts es (Close ∷ rest)
  args_sound zero ts es rest h = cc
  args_sound (suc n) ts es rest h = args_go_on n ts es rest (λ us xs r p. listed_sound n 10 us xs r p) (closed ts) refl h

  pub listed_sound : (n k : ℕ) (ts : List Token) (es : Arguments) (rest : List Token) → listed_at n k ts ≡ Some (es, rest) → Listed k ts es rest
  listed_sound zero k ts es rest h = cc
  listed_sound (suc n) zero ts es rest h = cc
  listed_sound (suc n) (suc k) ts es rest h =
      let b = bind_some (whole_at n ts) (λ e. listed_by (λ us. listed_at n k us) e.0 e.1 (parted e.1)) h in
      listed_goes_on n k ts b.0.0 b.0.1 es rest (λ us xs r p. listed_sound n k us xs r p) (whole_sound n ts b.0.0 b.0.1 b.1.0) (parted b.0.1) refl b.1.1
