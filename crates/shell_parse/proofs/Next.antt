-- One step of the automaton is exactly what the grammar allows.
use Rattle.std.proofs.Common.{ℕ, zero, suc, Bool, true, false, List, [], ◌∷◌, ◌⊎◌, inl, inr, refl}
use Rattle.std.specs.Prelude.{IsTrue}
use Rattle.shell_parse.specs.declared.tree.BinOp.TheVariants.{Minus, Times, And}
use Rattle.shell_parse.specs.declared.tree.UnOp.TheVariants as before
use Rattle.shell_parse.specs.declared.token.Token.{Token}
use Rattle.shell_parse.specs.declared.token.Token.TheVariants.{Number, Str, Name, Operator, Set, Not, Com, Open, Close, Comma, Semi, Redirect, File}
use Rattle.shell_parse.specs.declared.allowed.Mode.{Mode}
use Rattle.shell_parse.specs.declared.allowed.Mode.TheVariants.{Start, Named, Whole, Variable, Want, Target, Done, Callee, Opened, AtFile, Loaded}
use Rattle.shell_parse.specs.declared.frames.Frame.{Frame}
use Rattle.shell_parse.specs.declared.frames.Frame.TheVariants.{InGroup, InCall, InCommand}
use Rattle.shell_parse.specs.Trees.{PlainTree, Arguments, PlainStmt}
use Rattle.shell_parse.specs.Trees as trees
use Rattle.shell_parse.specs.Grammar.{Expression, plain, set_name, set_word, Unary, negated, inverted, complement, word, address, number, string, name, group, Calls, no_call, call, Args, none, some, Listed, one, next, begins_argument, is_ld, IsStmt, nothing, load, command, value, IsLine, last, followed}
use Rattle.shell_parse.specs.Allowed.{on_operand, on_whole, on_target, on_close, on_comma, on_semi, on_done, on_callee, on_variable, on_opened, on_named, on_start, on_file, on_loaded, step}
use Rattle.shell_parse.proofs.Chains.{Chain, ends, goes_on, level_chain}
use Rattle.shell_parse.proofs.Follow.{AfterStmt, WholeThen, ListedThen, UnaryThen, CallsThen, ChainThen, SetThen, NameThen, CloseThen, FileThen, Tail, CallGoesOn, CommandGoesOn, After, IsClose, OpenedThen, CalleeThen, VariableThen, CommandThen, LoadThen, NamedThen, Lang, LangOf, tail_of, no_tail, no_calls, plain_then}

-- ---- the callee does not decide what calls may follow
calls_any : {a e : PlainTree} {ts rest : List Token} → Calls a ts e rest → (b : PlainTree) → (e' : PlainTree) × Calls b ts e' rest
calls_any no_call b = (b, no_call)
calls_any (call {es = es} args c) b = let h = calls_any c (trees.Call b es) in (h.0, call args h.1)

-- ---- arguments are an expression that continues
command_from_stmt : (n : ℕ) (ts : List Token) → AfterStmt ts → CommandGoesOn n ts
command_from_stmt n [] k = k
command_from_stmt n (Comma ∷ ts) k = absurd k
command_from_stmt n (t ∷ ts) k = k

call_from_close : (n : ℕ) (B : List Token → Type 0) (ts : List Token) → CloseThen B ts → CallGoesOn n B ts
call_from_close n B [] k = absurd k
call_from_close n B (Close ∷ ts) k = k
call_from_close n B (t ∷ ts) k = absurd k

command_whole : (n : ℕ) {ts rest : List Token} {es : Arguments} → Listed (suc n) ts es rest → AfterStmt rest → WholeThen (CommandGoesOn n) ts
command_whole n (one {rest = rest} w) k = (_, (rest, (w, command_from_stmt n rest k)))
command_whole n (next w l) k = (_, (_, (w, (_, (_, (l, k))))))

call_whole : (n : ℕ) (B : List Token → Type 0) {ts rest : List Token} {es : Arguments} → Listed (suc n) ts es rest → CloseThen B rest → WholeThen (CallGoesOn n B) ts
call_whole n B (one {rest = rest} w) k = (_, (rest, (w, call_from_close n B rest k)))
call_whole n B (next w l) k = (_, (_, (w, (_, (_, (l, k))))))

listed_command : (n : ℕ) {ts : List Token} {e : PlainTree} (rest : List Token) → Expression ts e rest → CommandGoesOn n rest → ListedThen (suc n) AfterStmt ts
listed_command n [] w k = (_, (_, (one w, k)))
listed_command n (Comma ∷ r) w (es, (rest, (l, k))) = (_, (_, (next w l, k)))
listed_command n (t ∷ r) w k = (_, (_, (one w, k)))

listed_call : (n : ℕ) (B : List Token → Type 0) {ts : List Token} {e : PlainTree} (rest : List Token) → Expression ts e rest → CallGoesOn n B rest → ListedThen (suc n) (CloseThen B) ts
listed_call n B [] w k = absurd k
listed_call n B (Close ∷ r) w k = (_, (_, (one w, k)))
listed_call n B (Comma ∷ r) w (es, (rest, (l, k))) = (_, (_, (next w l, k)))
listed_call n B (t ∷ r) w k = absurd k

command_listed : (n : ℕ) (ts : List Token) → WholeThen (CommandGoesOn n) ts → ListedThen (suc n) AfterStmt ts
command_listed n ts (e, (rest, (w, k))) = listed_command n rest w k

call_listed : (n : ℕ) (B : List Token → Type 0) (ts : List Token) → WholeThen (CallGoesOn n B) ts → ListedThen (suc n) (CloseThen B) ts
call_listed n B ts (e, (rest, (w, k))) = listed_call n B rest w k

listed_command_on : (n : ℕ) (ts : List Token) → ListedThen (suc n) AfterStmt ts → WholeThen (CommandGoesOn n) ts
listed_command_on n ts (es, (rest, (l, k))) = command_whole n l k

listed_call_on : (n : ℕ) (B : List Token → Type 0) (ts : List Token) → ListedThen (suc n) (CloseThen B) ts → WholeThen (CallGoesOn n B) ts
listed_call_on n B ts (es, (rest, (l, k))) = call_whole n B l k

no_list : {ts rest : List Token} {es : Arguments} → Listed zero ts es rest → ⊥
no_list h = elim h [ ]

none_listed : (B : List Token → Type 0) (ts : List Token) → ListedThen zero B ts → ⊥
none_listed B ts (es, (rest, (l, k))) = no_list l

-- ---- an operand
back_name : (B : List Token → Type 0) (x : List ℕ) (ts : List Token) → CallsThen B ts → UnaryThen B (Name x ∷ ts)
back_name B x ts (a, (e, (rest, (c, k)))) = let h = calls_any c (trees.Name x) in (h.0, (rest, (name h.1, k)))

back_group : (B : List Token → Type 0) {ts : List Token} {e : PlainTree} (rest : List Token) → Expression ts e rest → CloseThen (CallsThen B) rest → UnaryThen B (Open ∷ ts)
back_group B [] w k = absurd k
back_group B {e = e} (Close ∷ r) w (a, (d, (rest, (c, k)))) = let h = calls_any c e in (h.0, (rest, (group w h.1, k)))
back_group B (t ∷ r) w k = absurd k

back_target : (mark : Bool) (fs : List Frame) (t : Token) (ts : List Token) → LangOf (on_target mark fs t) ts → NameThen (Tail mark (After fs)) (t ∷ ts)
back_target mark fs (Name x) ts h = h
back_target mark fs t ts h = absurd h

forth_target : (mark : Bool) (fs : List Frame) (t : Token) (ts : List Token) → NameThen (Tail mark (After fs)) (t ∷ ts) → LangOf (on_target mark fs t) ts
forth_target mark fs (Name x) ts h = h
forth_target mark fs t ts h = absurd h

back_address : (B : List Token → Type 0) (ts : List Token) → NameThen B ts → UnaryThen B (Operator And ∷ ts)
back_address B [] k = absurd k
back_address B (Name x ∷ ts) k = (trees.Address x, (ts, (address, k)))
back_address B (t ∷ ts) k = absurd k

back_operand : (mark : Bool) (fs : List Frame) (t : Token) (ts : List Token) → LangOf (on_operand mark fs t) ts → UnaryThen (Tail mark (After fs)) (t ∷ ts)
back_operand mark fs (Number n) ts h = (trees.Number n, (ts, (number, h)))
back_operand mark fs (Str text) ts h = (trees.Str text, (ts, (string, h)))
back_operand mark fs (Name x) ts h = back_name (Tail mark (After fs)) x ts h
back_operand mark fs (Operator Minus) ts (e, (rest, (u, k))) = (trees.Unary before.Neg e, (rest, (negated u, k)))
back_operand mark fs (Operator Times) ts (e, (rest, (u, k))) = (trees.Word e, (rest, (word u, k)))
back_operand mark fs (Operator And) ts h = back_address (Tail mark (After fs)) ts h
back_operand mark fs Not ts (e, (rest, (u, k))) = (trees.Unary before.Not e, (rest, (inverted u, k)))
back_operand mark fs Com ts (e, (rest, (u, k))) = (trees.Unary before.Com e, (rest, (complement u, k)))
back_operand mark fs Open ts (e, (rest, (w, k))) = back_group (Tail mark (After fs)) rest w k
back_operand mark fs t ts h = absurd h

forth_unary : (mark : Bool) (fs : List Frame) {t : Token} {ts mid : List Token} {e : PlainTree} → Unary (t ∷ ts) e mid → Tail mark (After fs) mid → LangOf (on_operand mark fs t) ts
forth_unary mark fs (negated u) k = (_, (_, (u, k)))
forth_unary mark fs (inverted u) k = (_, (_, (u, k)))
forth_unary mark fs (complement u) k = (_, (_, (u, k)))
forth_unary mark fs (word u) k = (_, (_, (u, k)))
forth_unary mark fs address k = k
forth_unary mark fs number k = k
forth_unary mark fs string k = k
forth_unary mark fs (name c) k = (_, (_, (_, (c, k))))
forth_unary mark fs (group w c) k = (_, (_, (w, (_, (_, (_, (c, k)))))))

forth_operand : (mark : Bool) (fs : List Frame) (t : Token) (ts : List Token) → UnaryThen (Tail mark (After fs)) (t ∷ ts) → LangOf (on_operand mark fs t) ts
forth_operand mark fs t ts (e, (mid, (u, k))) = forth_unary mark fs u k

-- ---- an expression
set_name_back : (B : List Token → Type 0) (x : List ℕ) (ts : List Token) → SetThen B ts → WholeThen B (Name x ∷ ts)
set_name_back B x [] k = absurd k
set_name_back B x (Set op ∷ ts) (e, (rest, (w, k))) = (trees.SetName op x e, (rest, (set_name w, k)))
set_name_back B x (t ∷ ts) k = absurd k

set_word_back : (B : List Token → Type 0) {ts : List Token} {a : PlainTree} (mid : List Token) → Unary ts a mid → SetThen B mid → WholeThen B (Operator Times ∷ ts)
set_word_back B [] u k = absurd k
set_word_back B {a = a} (Set op ∷ m) u (e, (rest, (w, k))) = (trees.SetWord op a e, (rest, (set_word u w, k)))
set_word_back B (t ∷ m) u k = absurd k

back_variable_name : (B : List Token → Type 0) (x : List ℕ) (ts : List Token) → SetThen B ts ⊎ CallsThen (Tail false B) ts → WholeThen B (Name x ∷ ts)
back_variable_name B x ts (inl s) = set_name_back B x ts s
back_variable_name B x ts (inr c) = plain_then B (Name x ∷ ts) (back_name (ChainThen B) x ts c)

back_star : (B : List Token → Type 0) {ts : List Token} {a : PlainTree} (mid : List Token) → Unary ts a mid → Tail true B mid → WholeThen B (Operator Times ∷ ts)
back_star B {ts = ts} {a = a} mid u (inl c) = plain_then B (Operator Times ∷ ts) (trees.Word a, (mid, (word u, c)))
back_star B mid u (inr s) = set_word_back B mid u s

back_whole : (fs : List Frame) (t : Token) (ts : List Token) → LangOf (on_whole fs t) ts → WholeThen (After fs) (t ∷ ts)
back_whole fs (Name x) ts h = back_variable_name (After fs) x ts h
back_whole fs (Operator Times) ts (a, (mid, (u, k))) = back_star (After fs) mid u k
back_whole fs t ts h = plain_then (After fs) (t ∷ ts) (back_operand false fs t ts h)

forth_plain : (fs : List Frame) {t : Token} {ts mid : List Token} {a : PlainTree} → Unary (t ∷ ts) a mid → ChainThen (After fs) mid → LangOf (on_whole fs t) ts
forth_plain fs (negated u) k = (_, (_, (u, k)))
forth_plain fs (inverted u) k = (_, (_, (u, k)))
forth_plain fs (complement u) k = (_, (_, (u, k)))
forth_plain fs (word u) k = (_, (_, (u, inl k)))
forth_plain fs address k = k
forth_plain fs number k = k
forth_plain fs string k = k
forth_plain fs (name c) k = inr (_, (_, (_, (c, k))))
forth_plain fs (group w c) k = (_, (_, (w, (_, (_, (_, (c, k)))))))

forth_expression : (fs : List Frame) {t : Token} {ts rest : List Token} {e : PlainTree} → Expression (t ∷ ts) e rest → After fs rest → LangOf (on_whole fs t) ts
forth_expression fs (plain l) k = let h = level_chain l in forth_plain fs h.1.1.0 (_, (h.1.1.1, k))
forth_expression fs (set_name w) k = inl (_, (_, (w, k)))
forth_expression fs (set_word u w) k = (_, (_, (u, inr (_, (_, (w, k))))))

forth_whole : (fs : List Frame) (t : Token) (ts : List Token) → WholeThen (After fs) (t ∷ ts) → LangOf (on_whole fs t) ts
forth_whole fs t ts (e, (rest, (w, k))) = forth_expression fs w k

-- ---- after an operand
back_close : (fs : List Frame) (ts : List Token) → LangOf (on_close fs) ts → After fs (Close ∷ ts)
back_close [] ts h = absurd h
back_close (InCommand n ∷ fs) ts h = absurd h
back_close (InGroup mark ∷ fs) ts h = h
back_close (InCall n mark ∷ fs) ts h = h

back_comma : (fs : List Frame) (ts : List Token) → LangOf (on_comma fs) ts → After fs (Comma ∷ ts)
back_comma [] ts h = absurd h
back_comma (InCommand zero ∷ fs) ts h = absurd h
back_comma (InCommand (suc n) ∷ fs) ts h = command_listed n ts h
back_comma (InGroup mark ∷ fs) ts h = absurd h
back_comma (InCall zero mark ∷ fs) ts h = absurd h
back_comma (InCall (suc n) mark ∷ fs) ts h = call_listed n (CalleeThen mark fs) ts h

back_semi : (fs : List Frame) (ts : List Token) → LangOf (on_semi fs) ts → After fs (Semi ∷ ts)
back_semi [] ts h = h
back_semi (InCommand n ∷ fs) ts h = h
back_semi (InGroup mark ∷ fs) ts h = absurd h
back_semi (InCall n mark ∷ fs) ts h = absurd h

back_done : (mark : Bool) (fs : List Frame) (t : Token) (ts : List Token) → LangOf (on_done mark fs t) ts → Tail mark (After fs) (t ∷ ts)
back_done mark fs (Operator op) ts (b, (mid, (u, (rest, (c, k))))) = tail_of mark (After fs) (Operator op ∷ ts) (rest, (goes_on u c, k))
back_done true fs (Set op) ts h = inr h
back_done false fs (Set op) ts h = absurd h
back_done mark fs Close ts h = no_tail mark (After fs) (Close ∷ ts) (back_close fs ts h)
back_done mark fs Comma ts h = no_tail mark (After fs) (Comma ∷ ts) (back_comma fs ts h)
back_done mark fs Semi ts h = no_tail mark (After fs) (Semi ∷ ts) (back_semi fs ts h)
back_done mark fs t ts h = absurd h

forth_after : (mark : Bool) (fs : List Frame) (t : Token) (ts : List Token) → After fs (t ∷ ts) → LangOf (on_done mark fs t) ts
forth_after mark [] Semi ts k = k
forth_after mark [] t ts k = absurd k
forth_after mark (InCommand zero ∷ fs) Comma ts k = absurd (none_listed AfterStmt ts k)
forth_after mark (InCommand (suc n) ∷ fs) Comma ts k = listed_command_on n ts k
forth_after mark (InCommand n ∷ fs) Semi ts k = k
forth_after mark (InCommand n ∷ fs) t ts k = absurd k
forth_after mark (InGroup m ∷ fs) Close ts k = k
forth_after mark (InGroup m ∷ fs) t ts k = absurd k
forth_after mark (InCall n m ∷ fs) Close ts k = k
forth_after mark (InCall zero m ∷ fs) Comma ts k = absurd (none_listed (CloseThen (CalleeThen m fs)) ts k)
forth_after mark (InCall (suc n) m ∷ fs) Comma ts k = listed_call_on n (CalleeThen m fs) ts k
forth_after mark (InCall n m ∷ fs) t ts k = absurd k

forth_chain : (mark : Bool) (fs : List Frame) {t : Token} {ts rest : List Token} → Chain (t ∷ ts) rest → After fs rest → LangOf (on_done mark fs t) ts
forth_chain mark fs {t = t} {ts = ts} ends k = forth_after mark fs t ts k
forth_chain mark fs (goes_on u c) k = (_, (_, (u, (_, (c, k)))))

forth_set : (fs : List Frame) (t : Token) (ts : List Token) → SetThen (After fs) (t ∷ ts) → LangOf (on_done true fs t) ts
forth_set fs (Set op) ts k = k
forth_set fs t ts k = absurd k

forth_done : (mark : Bool) (fs : List Frame) (t : Token) (ts : List Token) → Tail mark (After fs) (t ∷ ts) → LangOf (on_done mark fs t) ts
forth_done false fs t ts (rest, (c, k)) = forth_chain false fs c k
forth_done true fs t ts (inl (rest, (c, k))) = forth_chain true fs c k
forth_done true fs t ts (inr s) = forth_set fs t ts s

-- ---- after a callee
args_back : (B : List Token → Type 0) {ts : List Token} {es : Arguments} (rest : List Token) → Args ts es rest → CloseThen (CallsThen B) rest → CallsThen B (Open ∷ ts)
args_back B [] args k = absurd k
args_back B {es = es} (Close ∷ r) args (a, (e, (rest, (c, k)))) = let h = calls_any c (trees.Call (trees.Number 0) es) in (trees.Number 0, (h.0, (rest, (call args h.1, k))))
args_back B (t ∷ r) args k = absurd k

no_args_back : (mark : Bool) (fs : List Frame) (ts : List Token) → IsClose ts → After (InCall 9 mark ∷ fs) ts → CalleeThen mark fs (Open ∷ ts)
no_args_back mark fs [] c k = absurd c
no_args_back mark fs (Close ∷ r) c k = args_back (Tail mark (After fs)) (Close ∷ r) none k
no_args_back mark fs (t ∷ r) c k = absurd c

opened_back : (mark : Bool) (fs : List Frame) (ts : List Token) → OpenedThen (InCall 9 mark ∷ fs) ts → CalleeThen mark fs (Open ∷ ts)
opened_back mark fs ts (inl w) = let h = call_listed 9 (CalleeThen mark fs) ts w in args_back (Tail mark (After fs)) h.1.0 (some h.1.1.0) h.1.1.1
opened_back mark fs ts (inr (c, k)) = no_args_back mark fs ts c k

back_callee : (mark : Bool) (fs : List Frame) (t : Token) (ts : List Token) → LangOf (on_callee mark fs t) ts → CalleeThen mark fs (t ∷ ts)
back_callee mark fs Open ts h = opened_back mark fs ts h
back_callee mark fs t ts h = no_calls (Tail mark (After fs)) (t ∷ ts) (back_done mark fs t ts h)

callee_from_done : (mark : Bool) (fs : List Frame) (t : Token) (ts : List Token) → LangOf (on_done mark fs t) ts → LangOf (on_callee mark fs t) ts
callee_from_done mark fs Open ts h = absurd h
callee_from_done mark fs t ts h = h

forth_args : (mark : Bool) (fs : List Frame) {ts mid : List Token} {es : Arguments} → Args ts es (Close ∷ mid) → CalleeThen mark fs mid → OpenedThen (InCall 9 mark ∷ fs) ts
forth_args mark fs none k = inr (tt, k)
forth_args mark fs (some l) k = inl (call_whole 9 (CalleeThen mark fs) l k)

forth_calls : (mark : Bool) (fs : List Frame) {t : Token} {ts rest : List Token} {a e : PlainTree} → Calls a (t ∷ ts) e rest → Tail mark (After fs) rest → LangOf (on_callee mark fs t) ts
forth_calls mark fs {t = t} {ts = ts} no_call k = callee_from_done mark fs t ts (forth_done mark fs t ts k)
forth_calls mark fs (call args c) k = forth_args mark fs args (_, (_, (_, (c, k))))

forth_callee : (mark : Bool) (fs : List Frame) (t : Token) (ts : List Token) → CalleeThen mark fs (t ∷ ts) → LangOf (on_callee mark fs t) ts
forth_callee mark fs t ts (a, (e, (rest, (c, k)))) = forth_calls mark fs c k

-- ---- after a name that begins an expression
back_variable : (fs : List Frame) (t : Token) (ts : List Token) → LangOf (on_variable fs t) ts → VariableThen fs (t ∷ ts)
back_variable fs (Set op) ts h = inl h
back_variable fs t ts h = inr (back_callee false fs t ts h)

variable_from_set : (fs : List Frame) (t : Token) (ts : List Token) → SetThen (After fs) (t ∷ ts) → LangOf (on_variable fs t) ts
variable_from_set fs (Set op) ts h = h
variable_from_set fs t ts h = absurd h

variable_from_callee : (fs : List Frame) (t : Token) (ts : List Token) → LangOf (on_callee false fs t) ts → LangOf (on_variable fs t) ts
variable_from_callee fs (Set op) ts h = absurd h
variable_from_callee fs t ts h = h

forth_variable : (fs : List Frame) (t : Token) (ts : List Token) → VariableThen fs (t ∷ ts) → LangOf (on_variable fs t) ts
forth_variable fs t ts (inl s) = variable_from_set fs t ts s
forth_variable fs t ts (inr c) = variable_from_callee fs t ts (forth_callee false fs t ts c)

-- ---- after the opening parenthesis of a call
back_opened : (fs : List Frame) (t : Token) (ts : List Token) → LangOf (on_opened fs t) ts → OpenedThen fs (t ∷ ts)
back_opened fs Close ts h = inr (tt, back_close fs ts h)
back_opened fs t ts h = inl (back_whole fs t ts h)

opened_from_whole : (fs : List Frame) (t : Token) (ts : List Token) → LangOf (on_whole fs t) ts → LangOf (on_opened fs t) ts
opened_from_whole fs Close ts h = absurd h
opened_from_whole fs t ts h = h

opened_from_close : (fs : List Frame) (t : Token) (ts : List Token) → IsClose (t ∷ ts) → After fs (t ∷ ts) → LangOf (on_opened fs t) ts
opened_from_close fs Close ts c k = forth_after false fs Close ts k
opened_from_close fs t ts c k = absurd c

forth_opened : (fs : List Frame) (t : Token) (ts : List Token) → OpenedThen fs (t ∷ ts) → LangOf (on_opened fs t) ts
forth_opened fs t ts (inl w) = opened_from_whole fs t ts (forth_whole fs t ts w)
forth_opened fs t ts (inr (c, k)) = opened_from_close fs t ts c k

-- ---- after the name that begins a statement
back_command : (t : Token) (ts : List Token) → IsTrue (begins_argument (t ∷ ts)) → LangOf (on_whole (InCommand 9 ∷ []) t) ts → CommandThen (t ∷ ts)
back_command t ts b h = (b, command_listed 9 (t ∷ ts) (back_whole (InCommand 9 ∷ []) t ts h))

back_redirect : (ld : Bool) (ts : List Token) → LangOf (on_named ld Redirect) ts → NamedThen ld (Redirect ∷ ts)
back_redirect true ts h = inr (inl (refl, h))
back_redirect false ts h = absurd h

back_named : (ld : Bool) (t : Token) (ts : List Token) → LangOf (on_named ld t) ts → NamedThen ld (t ∷ ts)
back_named ld (Number n) ts h = inl (back_command (Number n) ts refl h)
back_named ld (Str text) ts h = inl (back_command (Str text) ts refl h)
back_named ld (Name x) ts h = inl (back_command (Name x) ts refl h)
back_named ld Not ts h = inl (back_command Not ts refl h)
back_named ld Com ts h = inl (back_command Com ts refl h)
back_named ld Redirect ts h = back_redirect ld ts h
back_named ld t ts h = inr (inr (back_variable [] t ts h))

forth_command : (t : Token) (ts : List Token) → ListedThen 10 AfterStmt (t ∷ ts) → LangOf (on_whole (InCommand 9 ∷ []) t) ts
forth_command t ts l = forth_whole (InCommand 9 ∷ []) t ts (listed_command_on 9 (t ∷ ts) l)

named_from_command : (ld : Bool) (t : Token) (ts : List Token) → IsTrue (begins_argument (t ∷ ts)) → ListedThen 10 AfterStmt (t ∷ ts) → LangOf (on_named ld t) ts
named_from_command ld (Number n) ts b l = forth_command (Number n) ts l
named_from_command ld (Str text) ts b l = forth_command (Str text) ts l
named_from_command ld (Name x) ts b l = forth_command (Name x) ts l
named_from_command ld Not ts b l = forth_command Not ts l
named_from_command ld Com ts b l = forth_command Com ts l
named_from_command ld t ts b l = cc

named_from_redirect : (ld : Bool) (ts : List Token) → IsTrue ld → FileThen ts → LangOf (on_named ld Redirect) ts
named_from_redirect true ts b k = k
named_from_redirect false ts b k = cc

named_from_load : (ld : Bool) (t : Token) (ts : List Token) → LoadThen ld (t ∷ ts) → LangOf (on_named ld t) ts
named_from_load ld Redirect ts (b, k) = named_from_redirect ld ts b k
named_from_load ld t ts k = absurd k

named_from_variable : (ld : Bool) (t : Token) (ts : List Token) → LangOf (on_variable [] t) ts → LangOf (on_named ld t) ts
named_from_variable ld (Number n) ts h = absurd h
named_from_variable ld (Str text) ts h = absurd h
named_from_variable ld (Name x) ts h = absurd h
named_from_variable ld Not ts h = absurd h
named_from_variable ld Com ts h = absurd h
named_from_variable ld Redirect ts h = absurd h
named_from_variable ld t ts h = h

forth_named : (ld : Bool) (t : Token) (ts : List Token) → NamedThen ld (t ∷ ts) → LangOf (on_named ld t) ts
forth_named ld t ts (inl (b, l)) = named_from_command ld t ts b l
forth_named ld t ts (inr (inl l)) = named_from_load ld t ts l
forth_named ld t ts (inr (inr v)) = named_from_variable ld t ts (forth_variable [] t ts v)

-- ---- at the beginning of a statement
line_of : {ts : List Token} {s : PlainStmt} (rest : List Token) → IsStmt ts s rest → AfterStmt rest → (ss : List PlainStmt) × IsLine ts ss
line_of [] p k = (_, last p)
line_of (Semi ∷ mid) p (ss, l) = (_, followed p l)
line_of (t ∷ mid) p k = absurd k

line_of_value : (ts : List Token) → WholeThen AfterStmt ts → (ss : List PlainStmt) × IsLine ts ss
line_of_value ts (e, (rest, (w, k))) = line_of rest (value w) k

file_back : (x : List ℕ) (ts : List Token) → IsTrue (is_ld x) → FileThen ts → (ss : List PlainStmt) × IsLine (Name x ∷ Redirect ∷ ts) ss
file_back x [] b k = absurd k
file_back x (File file ∷ rest) b k = line_of rest (load b) k
file_back x (t ∷ ts) b k = absurd k

load_back : (x : List ℕ) (ts : List Token) → LoadThen (is_ld x) ts → (ss : List PlainStmt) × IsLine (Name x ∷ ts) ss
load_back x [] k = absurd k
load_back x (Redirect ∷ ts) (b, k) = file_back x ts b k
load_back x (t ∷ ts) k = absurd k

named_back : (x : List ℕ) (ts : List Token) → NamedThen (is_ld x) ts → (ss : List PlainStmt) × IsLine (Name x ∷ ts) ss
named_back x ts (inl (b, (es, (rest, (l, k))))) = line_of rest (command {callee = x} b l) k
named_back x ts (inr (inl l)) = load_back x ts l
named_back x ts (inr (inr v)) = line_of_value (Name x ∷ ts) (back_variable_name AfterStmt x ts v)

back_start : (t : Token) (ts : List Token) → LangOf (on_start t) ts → (ss : List PlainStmt) × IsLine (t ∷ ts) ss
back_start Semi ts (ss, l) = (_, followed nothing l)
back_start (Name x) ts h = named_back x ts h
back_start t ts h = line_of_value (t ∷ ts) (back_whole [] t ts h)

start_from_nothing : (t : Token) (ts : List Token) → AfterStmt (t ∷ ts) → LangOf (on_start t) ts
start_from_nothing Semi ts k = k
start_from_nothing t ts k = absurd k

start_from_whole : (t : Token) (ts : List Token) → LangOf (on_whole [] t) ts → LangOf (on_start t) ts
start_from_whole Semi ts h = absurd h
start_from_whole (Name x) ts h = inr (inr h)
start_from_whole t ts h = h

forth_stmt : {t : Token} {ts rest : List Token} {s : PlainStmt} → IsStmt (t ∷ ts) s rest → AfterStmt rest → LangOf (on_start t) ts
forth_stmt {t = t} {ts = ts} nothing k = start_from_nothing t ts k
forth_stmt (load b) k = inr (inl (b, k))
forth_stmt (command b l) k = inl (b, (_, (_, (l, k))))
forth_stmt {t = t} {ts = ts} (value w) k = start_from_whole t ts (forth_expression [] w k)

forth_line : {t : Token} {ts : List Token} {ss : List PlainStmt} → IsLine (t ∷ ts) ss → LangOf (on_start t) ts
forth_line (last p) = forth_stmt p tt
forth_line (followed p l) = forth_stmt p (_, l)

-- ---- a file
back_file : (t : Token) (ts : List Token) → LangOf (on_file t) ts → FileThen (t ∷ ts)
back_file (File file) ts h = h
back_file t ts h = absurd h

forth_file : (t : Token) (ts : List Token) → FileThen (t ∷ ts) → LangOf (on_file t) ts
forth_file (File file) ts h = h
forth_file t ts h = absurd h

back_loaded : (t : Token) (ts : List Token) → LangOf (on_loaded t) ts → AfterStmt (t ∷ ts)
back_loaded Semi ts h = h
back_loaded t ts h = absurd h

forth_loaded : (t : Token) (ts : List Token) → AfterStmt (t ∷ ts) → LangOf (on_loaded t) ts
forth_loaded Semi ts h = h
forth_loaded t ts h = absurd h

-- ---- one step is exactly what the grammar allows
exact : (mode : Mode) (fs : List Frame) (t : Token) (ts : List Token) → (LangOf (step mode fs t) ts → Lang mode fs (t ∷ ts)) × (Lang mode fs (t ∷ ts) → LangOf (step mode fs t) ts)
exact Start fs t ts = (back_start t ts, λ h. forth_line h.1)
exact (Named ld) fs t ts = (back_named ld t ts, forth_named ld t ts)
exact Whole fs t ts = (back_whole fs t ts, forth_whole fs t ts)
exact Variable fs t ts = (back_variable fs t ts, forth_variable fs t ts)
exact (Want mark) fs t ts = (back_operand mark fs t ts, forth_operand mark fs t ts)
exact (Target mark) fs t ts = (back_target mark fs t ts, forth_target mark fs t ts)
exact (Done mark) fs t ts = (back_done mark fs t ts, forth_done mark fs t ts)
exact (Callee mark) fs t ts = (back_callee mark fs t ts, forth_callee mark fs t ts)
exact Opened fs t ts = (back_opened fs t ts, forth_opened fs t ts)
exact AtFile fs t ts = (back_file t ts, forth_file t ts)
exact Loaded fs t ts = (back_loaded t ts, forth_loaded t ts)

pub back : (mode : Mode) (fs : List Frame) (t : Token) (ts : List Token) → LangOf (step mode fs t) ts → Lang mode fs (t ∷ ts)
back mode fs t ts = (exact mode fs t ts).0

pub forth : (mode : Mode) (fs : List Frame) (t : Token) (ts : List Token) → Lang mode fs (t ∷ ts) → LangOf (step mode fs t) ts
forth mode fs t ts = (exact mode fs t ts).1
