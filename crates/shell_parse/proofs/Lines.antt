-- The statements of a line: what the grammar says they are is what is read.
use Rattle.std.proofs.Common.{◌≡◌, ℕ, zero, suc, ◌+◌, ◌*◌, ◌≤◌, Bool, true, false, List, [], ◌∷◌, length, Option, Some, None, refl, sym, subst, ◌∙◌, ap, arith}
use Rattle.std.specs.Prelude.{IsTrue, if◌then◌else◌}
use Rattle.shell_parse.specs.declared.token.Token.{Token}
use Rattle.shell_parse.specs.declared.token.Token.TheVariants.{Number, Str, Name, Not, Com, Semi, Redirect, File}
use Rattle.shell_parse.specs.Levels.{levels}
use Rattle.shell_parse.specs.Trees.{PlainTree, PlainStmt, Nothing, Load, Command, Expr}
use Rattle.shell_parse.specs.Trees as trees
use Rattle.shell_parse.specs.Grammar.{begins_argument, is_ld, IsStmt, nothing, load, command, value, IsLine, last, followed}
use Rattle.shell_parse.specs.Descent.{opened, name_assigned, operator_at, mapped, whole_by, calls_by, whole_at, star_at, climb_at, level_at, args_at, calls_at, listed_at, file_by, named_by, stmt_at, line_by, line_at, stmts_of}
use Rattle.shell_parse.proofs.Complete.{EndsWhole, EndsList, Opens, whole_opens, first, climb_stops, shorter_whole, shorter_listed, whole_complete, listed_complete}
use Rattle.shell_parse.proofs.Sound.{bind_some, pair_is, whole_sound, listed_sound}

-- ---- what the grammar finds is read
-- after a statement
abbrev pub EndsStmt : List Token → Type 0
EndsStmt [] = Unit {0}
EndsStmt (Semi ∷ ts) = Unit {0}
EndsStmt _ = ⊥

whole_from_stmt : (ts : List Token) → EndsStmt ts → EndsWhole ts
whole_from_stmt [] h = tt
whole_from_stmt (Semi ∷ ts) h = tt
whole_from_stmt (t ∷ ts) h = absurd h

list_from_stmt : (ts : List Token) → EndsStmt ts → EndsList ts
list_from_stmt [] h = tt
list_from_stmt (Semi ∷ ts) h = tt
list_from_stmt (t ∷ ts) h = absurd h

-- a name followed by no assignment, call or operator is an expression by itself
name_alone : (n : ℕ) (x : List ℕ) (ts : List Token) → 14 ≤ n → name_assigned (Name x ∷ ts) ≡ None → opened ts ≡ None → ((i : ℕ) → operator_at i ts ≡ None)
    → whole_at n (Name x ∷ ts) ≡ Some (trees.Name x, ts)
unfolding whole_at
name_alone zero x ts h a o p = absurd (omega arith)
name_alone (suc zero) x ts h a o p = absurd (omega arith)
name_alone (suc (suc zero)) x ts h a o p = absurd (omega arith)
name_alone (suc (suc (suc zero))) x ts h a o p = absurd (omega arith)
name_alone (suc (suc (suc (suc n)))) x ts h a o p =
    ap (λ left. whole_by (λ us. whole_at (suc (suc (suc n))) us) (λ us. star_at (suc (suc (suc n))) us) (λ us. level_at (suc (suc (suc n))) levels us) (Name x ∷ ts) left None) a
    ∙ first (λ b. climb_at (suc (suc n)) levels b.0 b.1) (ap (calls_by (λ us. args_at n us) (λ b us. calls_at n b us) (trees.Name x) ts) o)
    (climb_stops (suc (suc n)) levels (trees.Name x) ts (omega arith) p)

-- so no such token comes after a name that is a statement's expression
after_name : (n : ℕ) (x : List ℕ) (t : Token) (ts : List Token) (e : PlainTree) (rest : List Token) → 14 ≤ n → EndsStmt rest → whole_at n (Name x ∷ t ∷ ts) ≡ Some (e, rest)
    → name_assigned (Name x ∷ t ∷ ts) ≡ None → opened (t ∷ ts) ≡ None → ((i : ℕ) → operator_at i (t ∷ ts) ≡ None) → EndsStmt (t ∷ ts)
after_name n x t ts e rest h k w a o p = pair_is (λ y us. EndsStmt us) (sym w ∙ name_alone n x (t ∷ ts) h a o p) k

read_value : (n : ℕ) (ts : List Token) (e : PlainTree) (rest : List Token) → 14 ≤ n → EndsStmt rest → Opens ts → whole_at n ts ≡ Some (e, rest) → stmt_at n ts ≡ Some (Expr e, rest)
unfolding stmt_at
read_value n [] e rest h k b w = absurd b
read_value n (Semi ∷ ts) e rest h k b w = absurd b
read_value n (Name x ∷ []) e rest h k b w = first (λ y. Some (Expr y.0, y.1)) w refl
read_value n (Name x ∷ Number m ∷ ts) e rest h k b w = absurd (after_name n x (Number m) ts e rest h k w refl refl (λ i. refl))
read_value n (Name x ∷ Str text ∷ ts) e rest h k b w = absurd (after_name n x (Str text) ts e rest h k w refl refl (λ i. refl))
read_value n (Name x ∷ Name y ∷ ts) e rest h k b w = absurd (after_name n x (Name y) ts e rest h k w refl refl (λ i. refl))
read_value n (Name x ∷ Not ∷ ts) e rest h k b w = absurd (after_name n x Not ts e rest h k w refl refl (λ i. refl))
read_value n (Name x ∷ Com ∷ ts) e rest h k b w = absurd (after_name n x Com ts e rest h k w refl refl (λ i. refl))
read_value n (Name x ∷ Redirect ∷ ts) e rest h k b w = absurd (after_name n x Redirect ts e rest h k w refl refl (λ i. refl))
read_value n (Name x ∷ t ∷ ts) e rest h k b w = first (λ y. Some (Expr y.0, y.1)) w refl
read_value n (t ∷ ts) e rest h k b w = first (λ y. Some (Expr y.0, y.1)) w refl

read_nothing : (ts : List Token) (n : ℕ) → EndsStmt ts → stmt_at n ts ≡ Some (Nothing, ts)
unfolding stmt_at
read_nothing [] n k = refl
read_nothing (Semi ∷ ts) n k = refl
read_nothing (t ∷ ts) n k = absurd k

read_load : (n : ℕ) (x file : List ℕ) (rest : List Token) → IsTrue (is_ld x) → stmt_at n (Name x ∷ Redirect ∷ File file ∷ rest) ≡ Some (Load file, rest)
unfolding stmt_at
read_load n x file rest h = ap (λ b. if b then Some (Load file, rest) else None) h

-- arguments after the name of a statement
read_command : (callee : List ℕ) (ts : List Token) (n : ℕ) → IsTrue (begins_argument ts) → stmt_at n (Name callee ∷ ts) ≡ mapped (Command callee) (listed_at n 10 ts)
unfolding stmt_at
read_command callee [] n h = cc
read_command callee (Number m ∷ ts) n h = refl
read_command callee (Str text ∷ ts) n h = refl
read_command callee (Name x ∷ ts) n h = refl
read_command callee (Not ∷ ts) n h = refl
read_command callee (Com ∷ ts) n h = refl
read_command callee (t ∷ ts) n h = cc

stmt_complete : {ts rest : List Token} {s : PlainStmt} → IsStmt ts s rest → (n : ℕ) → 20 * length ts + 15 ≤ n → EndsStmt rest → stmt_at n ts ≡ Some (s, rest)
stmt_complete {ts = ts} nothing n h k = read_nothing ts n k
stmt_complete {rest = rest} (load {x = x} {file = file} l) n h k = read_load n x file rest l
stmt_complete {rest = rest} (command {callee = callee} {ts = ts} b l) n h k =
    read_command callee ts n b ∙ first (λ y. Some (Command callee y.0, y.1)) (listed_complete l n (omega arith) (list_from_stmt rest k)) refl
stmt_complete {ts = ts} {rest = rest} (value {e = e} w) n h k = read_value n ts e rest (omega arith) k (whole_opens w) (whole_complete w n (omega arith) (whole_from_stmt rest k))

shorter_stmt : {ts rest : List Token} {s : PlainStmt} → IsStmt ts s rest → length rest ≤ length ts
shorter_stmt nothing = omega arith
shorter_stmt (load l) = omega arith
shorter_stmt (command b l) = omega (arith, shorter_listed l)
shorter_stmt (value w) = shorter_whole w

line_complete : {ts : List Token} {ss : List PlainStmt} → IsLine ts ss → (k n : ℕ) → length ts + 1 ≤ k → 20 * length ts + 15 ≤ n → line_at k n ts ≡ Some ss
unfolding line_at
line_complete l zero n h g = absurd (omega arith)
line_complete (last p) (suc k) n h g = first (λ s. line_by (λ us. line_at k n us) s.0 s.1) (stmt_complete p n g tt) refl
line_complete (followed {s = s} p l) (suc k) n h g =
    let short = shorter_stmt p in
    first (λ s. line_by (λ us. line_at k n us) s.0 s.1) (stmt_complete p n g tt) (first (λ ss. Some (s ∷ ss)) (line_complete l k n (omega arith) (omega arith)) refl)

-- the statements of a line are read
pub stmts_complete : (ts : List Token) (ss : List PlainStmt) → IsLine ts ss → stmts_of ts ≡ Some ss
stmts_complete ts ss l = line_complete l (length ts + 1) (20 * length ts + 20) (omega arith) (omega arith)

-- ---- what is read is what the grammar finds
value_sound : (n : ℕ) (ts : List Token) (s : PlainStmt) (rest : List Token) → mapped Expr (whole_at n ts) ≡ Some (s, rest) → IsStmt ts s rest
value_sound n ts s rest h =
    let b = bind_some (whole_at n ts) (λ y. Some (Expr y.0, y.1)) h in
    pair_is (λ u v. IsStmt ts u v) b.1.1 (value (whole_sound n ts b.0.0 b.0.1 b.1.0))

command_sound : (n : ℕ) (callee : List ℕ) (ts : List Token) (s : PlainStmt) (rest : List Token) → begins_argument ts ≡ true
    → mapped (Command callee) (listed_at n 10 ts) ≡ Some (s, rest) → IsStmt (Name callee ∷ ts) s rest
command_sound n callee ts s rest e h =
    let b = bind_some (listed_at n 10 ts) (λ y. Some (Command callee y.0, y.1)) h in
    pair_is (λ u v. IsStmt (Name callee ∷ ts) u v) b.1.1 (command e (listed_sound n 10 ts b.0.0 b.0.1 b.1.0))

file_sound : (x : List ℕ) (ts : List Token) (s : PlainStmt) (rest : List Token) → is_ld x ≡ true → file_by ts ≡ Some (s, rest) → IsStmt (Name x ∷ Redirect ∷ ts) s rest
file_sound x [] s rest l h = cc
file_sound x (File file ∷ ts) s rest l h = pair_is (λ u v. IsStmt (Name x ∷ Redirect ∷ File file ∷ ts) u v) h (load l)
file_sound x (t ∷ ts) s rest l h = cc

load_sound : (x : List ℕ) (ts : List Token) (s : PlainStmt) (rest : List Token) (b : Bool) → is_ld x ≡ b → (if b then file_by ts else None) ≡ Some (s, rest) → IsStmt (Name x ∷ Redirect ∷ ts) s rest
load_sound x ts s rest true l h = file_sound x ts s rest l h
load_sound x ts s rest false l h = cc

named_sound : (n : ℕ) (callee : List ℕ) (ts : List Token) (s : PlainStmt) (rest : List Token)
    → named_by (λ us. whole_at n us) (λ us. listed_at n 10 us) callee ts ≡ Some (s, rest) → IsStmt (Name callee ∷ ts) s rest
named_sound n callee [] s rest h = value_sound n (Name callee ∷ []) s rest h
named_sound n callee (Number m ∷ ts) s rest h = command_sound n callee (Number m ∷ ts) s rest refl h
named_sound n callee (Str text ∷ ts) s rest h = command_sound n callee (Str text ∷ ts) s rest refl h
named_sound n callee (Name x ∷ ts) s rest h = command_sound n callee (Name x ∷ ts) s rest refl h
named_sound n callee (Not ∷ ts) s rest h = command_sound n callee (Not ∷ ts) s rest refl h
named_sound n callee (Com ∷ ts) s rest h = command_sound n callee (Com ∷ ts) s rest refl h
named_sound n callee (Redirect ∷ ts) s rest h = load_sound callee ts s rest (is_ld callee) refl h
named_sound n callee (t ∷ ts) s rest h = value_sound n (Name callee ∷ t ∷ ts) s rest h

stmt_sound : (n : ℕ) (ts : List Token) (s : PlainStmt) (rest : List Token) → stmt_at n ts ≡ Some (s, rest) → IsStmt ts s rest
unfolding stmt_at
stmt_sound n [] s rest h = pair_is (λ u v. IsStmt [] u v) h nothing
stmt_sound n (Semi ∷ ts) s rest h = pair_is (λ u v. IsStmt (Semi ∷ ts) u v) h nothing
stmt_sound n (Name callee ∷ ts) s rest h = named_sound n callee ts s rest h
stmt_sound n (t ∷ ts) s rest h = value_sound n (t ∷ ts) s rest h

last_is : (ts : List Token) (s : PlainStmt) (ss : List PlainStmt) → IsStmt ts s [] → Some (s ∷ []) ≡ Some ss → IsLine ts ss
last_is ts s ss p h = let e : s ∷ [] ≡ ss = cc in subst (λ x. IsLine ts x) e (last p)

then_is : (ts mid : List Token) (s : PlainStmt) (more ss : List PlainStmt) → IsStmt ts s (Semi ∷ mid) → IsLine mid more → Some (s ∷ more) ≡ Some ss → IsLine ts ss
then_is ts mid s more ss p l h = let e : s ∷ more ≡ ss = cc in subst (λ x. IsLine ts x) e (followed p l)

line_goes_on : (go : List Token → Option (List PlainStmt)) (ts : List Token) (s : PlainStmt) (rest : List Token) (ss : List PlainStmt)
    → ((us : List Token) (xs : List PlainStmt) → go us ≡ Some xs → IsLine us xs) → IsStmt ts s rest → line_by go s rest ≡ Some ss → IsLine ts ss
line_goes_on go ts s [] ss more p h = last_is ts s ss p h
line_goes_on go ts s (Semi ∷ mid) ss more p h =
    let b = bind_some (go mid) (λ xs. Some (s ∷ xs)) h in
    then_is ts mid s b.0 ss p (more mid b.0 b.1.0) b.1.1
line_goes_on go ts s (t ∷ mid) ss more p h = cc

line_sound : (k n : ℕ) (ts : List Token) (ss : List PlainStmt) → line_at k n ts ≡ Some ss → IsLine ts ss
unfolding line_at
line_sound zero n ts ss h = cc
line_sound (suc k) n ts ss h =
    let b = bind_some (stmt_at n ts) (λ s. line_by (λ us. line_at k n us) s.0 s.1) h in
    line_goes_on (λ us. line_at k n us) ts b.0.0 b.0.1 ss (λ us xs q. line_sound k n us xs q) (stmt_sound n ts b.0.0 b.0.1 b.1.0) b.1.1

-- the statements that are read are the line's
pub stmts_sound : (ts : List Token) (ss : List PlainStmt) → stmts_of ts ≡ Some ss → IsLine ts ss
stmts_sound ts ss h = line_sound (length ts + 1) (20 * length ts + 20) ts ss h
