-- What may follow each place of the automaton, in terms of the grammar, and where a line may end.
use Rattle.std.proofs.Common.{◌≡◌, ℕ, Bool, true, false, List, [], ◌∷◌, Option, Some, None, ◌⊎◌, inl, inr, refl}
use Rattle.std.specs.Prelude.{IsTrue, codes}
use Rattle.shell_parse.specs.declared.token.Token.{Token}
use Rattle.shell_parse.specs.declared.token.Token.TheVariants.{Number, Name, Set, Close, Comma, Semi, Redirect, File}
use Rattle.shell_parse.specs.declared.allowed.Mode.{Mode}
use Rattle.shell_parse.specs.declared.allowed.Mode.TheVariants.{Start, Named, Whole, Variable, Want, Target, Done, Callee, Opened, AtFile, Loaded}
use Rattle.shell_parse.specs.declared.frames.Frame.{Frame}
use Rattle.shell_parse.specs.declared.frames.Frame.TheVariants.{InGroup, InCall, InCommand}
use Rattle.shell_parse.specs.Trees.{PlainTree, Arguments, PlainStmt, Nothing}
use Rattle.shell_parse.specs.Trees as trees
use Rattle.shell_parse.specs.Grammar.{Expression, plain, Unary, number, Calls, no_call, Listed, begins_argument, IsLine, last, nothing}
use Rattle.shell_parse.specs.Allowed.{Place}
use Rattle.shell_parse.proofs.Chains.{Chain, ends, chain_level}
use Rattle.shell_parse.proofs.Complete.{whole_opens}

-- ---- after a statement: the end, or a semicolon and a line
abbrev pub AfterStmt : List Token → Type 0
AfterStmt [] = Unit {0}
AfterStmt (Semi ∷ mid) = (ss : List PlainStmt) × IsLine mid ss
AfterStmt (t ∷ mid) = ⊥

-- ---- a part of the grammar, and then what B says
abbrev pub WholeThen : (List Token → Type 0) → List Token → Type 0
WholeThen B ts = (e : PlainTree) × ((rest : List Token) × (Expression ts e rest × B rest))

abbrev pub ListedThen : ℕ → (List Token → Type 0) → List Token → Type 0
ListedThen n B ts = (es : Arguments) × ((rest : List Token) × (Listed n ts es rest × B rest))

abbrev pub UnaryThen : (List Token → Type 0) → List Token → Type 0
UnaryThen B ts = (e : PlainTree) × ((rest : List Token) × (Unary ts e rest × B rest))

abbrev pub CallsThen : (List Token → Type 0) → List Token → Type 0
CallsThen B ts = (a : PlainTree) × ((e : PlainTree) × ((rest : List Token) × (Calls a ts e rest × B rest)))

abbrev pub ChainThen : (List Token → Type 0) → List Token → Type 0
ChainThen B ts = (rest : List Token) × (Chain ts rest × B rest)

abbrev pub SetThen : (List Token → Type 0) → List Token → Type 0
SetThen B (Set op ∷ ts) = WholeThen B ts
SetThen B _ = ⊥

abbrev pub NameThen : (List Token → Type 0) → List Token → Type 0
NameThen B (Name x ∷ ts) = B ts
NameThen B _ = ⊥

abbrev pub CloseThen : (List Token → Type 0) → List Token → Type 0
CloseThen B (Close ∷ ts) = B ts
CloseThen B _ = ⊥

abbrev pub FileThen : List Token → Type 0
FileThen (File file ∷ ts) = AfterStmt ts
FileThen _ = ⊥

-- operators, or, with the mark, an assignment
abbrev pub Tail : Bool → (List Token → Type 0) → List Token → Type 0
Tail false B ts = ChainThen B ts
Tail true B ts = ChainThen B ts ⊎ SetThen B ts

-- ---- after an argument, with and without parentheses; n more may follow
abbrev pub CallGoesOn : ℕ → (List Token → Type 0) → List Token → Type 0
CallGoesOn n B (Close ∷ ts) = B ts
CallGoesOn n B (Comma ∷ ts) = ListedThen n (CloseThen B) ts
CallGoesOn n B _ = ⊥

abbrev pub CommandGoesOn : ℕ → List Token → Type 0
CommandGoesOn n (Comma ∷ ts) = ListedThen n AfterStmt ts
CommandGoesOn n ts = AfterStmt ts

-- ---- after a whole expression, by what is open
abbrev pub After : List Frame → List Token → Type 0
After [] ts = AfterStmt ts
After (InCommand n ∷ fs) ts = CommandGoesOn n ts
After (InGroup mark ∷ fs) ts = CloseThen (λ r. CallsThen (λ q. Tail mark (λ p. After fs p) q) r) ts
After (InCall n mark ∷ fs) ts = CallGoesOn n (λ r. CallsThen (λ q. Tail mark (λ p. After fs p) q) r) ts

abbrev pub IsClose : List Token → Type 0
IsClose (Close ∷ ts) = Unit {0}
IsClose _ = ⊥

-- after an opening parenthesis: an argument, or the closing parenthesis
abbrev pub OpenedThen : List Frame → List Token → Type 0
OpenedThen fs ts = WholeThen (After fs) ts ⊎ (IsClose ts × After fs ts)

-- after a callee, and after a name that begins an expression
abbrev pub CalleeThen : Bool → List Frame → List Token → Type 0
CalleeThen mark fs ts = CallsThen (Tail mark (After fs)) ts

abbrev pub VariableThen : List Frame → List Token → Type 0
VariableThen fs ts = SetThen (After fs) ts ⊎ CalleeThen false fs ts

-- after the name that begins a statement: arguments, a file, or what follows a name in an expression
abbrev pub CommandThen : List Token → Type 0
CommandThen ts = IsTrue (begins_argument ts) × ListedThen 10 AfterStmt ts

abbrev pub LoadThen : Bool → List Token → Type 0
LoadThen ld (Redirect ∷ ts) = IsTrue ld × FileThen ts
LoadThen ld _ = ⊥

abbrev pub NamedThen : Bool → List Token → Type 0
NamedThen ld ts = CommandThen ts ⊎ (LoadThen ld ts ⊎ VariableThen [] ts)

-- ---- what may follow a place
abbrev pub Lang : Mode → List Frame → List Token → Type 0
Lang Start fs ts = (ss : List PlainStmt) × IsLine ts ss
Lang (Named ld) fs ts = NamedThen ld ts
Lang Whole fs ts = WholeThen (After fs) ts
Lang Variable fs ts = VariableThen fs ts
Lang (Want mark) fs ts = UnaryThen (Tail mark (After fs)) ts
Lang (Target mark) fs ts = NameThen (Tail mark (After fs)) ts
Lang (Done mark) fs ts = Tail mark (After fs) ts
Lang (Callee mark) fs ts = CalleeThen mark fs ts
Lang Opened fs ts = OpenedThen fs ts
Lang AtFile fs ts = FileThen ts
Lang Loaded fs ts = AfterStmt ts

abbrev pub LangOf : Option Place → List Token → Type 0
LangOf None ts = ⊥
LangOf (Some p) ts = Lang p.mode p.frames ts

-- ---- nothing need follow
pub tail_of : (mark : Bool) (B : List Token → Type 0) (ts : List Token) → ChainThen B ts → Tail mark B ts
tail_of true B ts h = inl h
tail_of false B ts h = h

pub no_tail : (mark : Bool) (B : List Token → Type 0) (ts : List Token) → B ts → Tail mark B ts
no_tail mark B ts b = tail_of mark B ts (ts, (ends, b))

pub no_calls : (B : List Token → Type 0) (ts : List Token) → B ts → CallsThen B ts
no_calls B ts b = (trees.Number 0, (trees.Number 0, (ts, (no_call, b))))

pub plain_then : (B : List Token → Type 0) (ts : List Token) → UnaryThen (ChainThen B) ts → WholeThen B ts
plain_then B ts (a, (mid, (u, (rest, (c, k))))) = let l = chain_level u c in (l.0, (rest, (plain l.1, k)))

-- ---- every place has a way to the end
abbrev pub word_after : List Frame → List Token
word_after [] = []
word_after (InCommand n ∷ fs) = []
word_after (InGroup mark ∷ fs) = Close ∷ word_after fs
word_after (InCall n mark ∷ fs) = Close ∷ word_after fs

callee_word : (mark : Bool) (fs : List Frame) (ts : List Token) → After fs ts → CalleeThen mark fs ts
callee_word mark fs ts b = no_calls (Tail mark (After fs)) ts (no_tail mark (After fs) ts b)

after_word : (fs : List Frame) → After fs (word_after fs)
after_word [] = tt
after_word (InCommand n ∷ fs) = tt
after_word (InGroup mark ∷ fs) = callee_word mark fs (word_after fs) (after_word fs)
after_word (InCall n mark ∷ fs) = callee_word mark fs (word_after fs) (after_word fs)

whole_word : (fs : List Frame) → WholeThen (After fs) (Number 0 ∷ word_after fs)
whole_word fs = plain_then (After fs) (Number 0 ∷ word_after fs) (trees.Number 0, (word_after fs, (number, (word_after fs, (ends, after_word fs)))))

abbrev pub word : Mode → List Frame → List Token
word Start fs = []
word (Named ld) fs = []
word Whole fs = Number 0 ∷ word_after fs
word Variable fs = word_after fs
word (Want mark) fs = Number 0 ∷ word_after fs
word (Target mark) fs = Name (codes "x") ∷ word_after fs
word (Done mark) fs = word_after fs
word (Callee mark) fs = word_after fs
word Opened fs = Number 0 ∷ word_after fs
word AtFile fs = File (codes "x") ∷ []
word Loaded fs = []

pub completes : (mode : Mode) (fs : List Frame) → Lang mode fs (word mode fs)
completes Start fs = (Nothing ∷ [], last nothing)
completes (Named ld) fs = inr (inr (inr (callee_word false [] [] tt)))
completes Whole fs = whole_word fs
completes Variable fs = inr (callee_word false fs (word_after fs) (after_word fs))
completes (Want mark) fs = (trees.Number 0, (word_after fs, (number, no_tail mark (After fs) (word_after fs) (after_word fs))))
completes (Target mark) fs = no_tail mark (After fs) (word_after fs) (after_word fs)
completes (Done mark) fs = no_tail mark (After fs) (word_after fs) (after_word fs)
completes (Callee mark) fs = callee_word mark fs (word_after fs) (after_word fs)
completes Opened fs = inl (whole_word fs)
completes AtFile fs = tt
completes Loaded fs = tt

-- ---- the end of the line
-- what is open permits the line to end
abbrev pub is_bottom : List Frame → Bool
is_bottom [] = true
is_bottom (InCommand n ∷ fs) = true
is_bottom (InGroup mark ∷ fs) = false
is_bottom (InCall n mark ∷ fs) = false

-- a line may end here
abbrev pub may_end : Mode → List Frame → Bool
may_end Start fs = true
may_end (Named ld) fs = true
may_end Whole fs = false
may_end Variable fs = is_bottom fs
may_end (Want mark) fs = false
may_end (Target mark) fs = false
may_end (Done mark) fs = is_bottom fs
may_end (Callee mark) fs = is_bottom fs
may_end Opened fs = false
may_end AtFile fs = false
may_end Loaded fs = true

no_unary : {e : PlainTree} {mid : List Token} → Unary [] e mid → ⊥
no_unary h = elim h [ ]

after_end : (fs : List Frame) → After fs [] → is_bottom fs ≡ true
after_end [] k = refl
after_end (InCommand n ∷ fs) k = refl
after_end (InGroup mark ∷ fs) k = absurd k
after_end (InCall n mark ∷ fs) k = absurd k

chain_end : (fs : List Frame) {rest : List Token} → Chain [] rest → After fs rest → is_bottom fs ≡ true
chain_end fs ends k = after_end fs k

tail_end : (mark : Bool) (fs : List Frame) → Tail mark (After fs) [] → is_bottom fs ≡ true
tail_end false fs (rest, (c, k)) = chain_end fs c k
tail_end true fs (inl (rest, (c, k))) = chain_end fs c k
tail_end true fs (inr s) = absurd s

calls_end : (mark : Bool) (fs : List Frame) {a e : PlainTree} {rest : List Token} → Calls a [] e rest → Tail mark (After fs) rest → is_bottom fs ≡ true
calls_end mark fs no_call k = tail_end mark fs k

callee_end : (mark : Bool) (fs : List Frame) → CalleeThen mark fs [] → is_bottom fs ≡ true
callee_end mark fs (a, (e, (rest, (c, k)))) = calls_end mark fs c k

pub ends_there : (mode : Mode) (fs : List Frame) → Lang mode fs [] → may_end mode fs ≡ true
ends_there Start fs h = refl
ends_there (Named ld) fs h = refl
ends_there Whole fs (e, (rest, (w, k))) = absurd (whole_opens w)
ends_there Variable fs (inl s) = absurd s
ends_there Variable fs (inr c) = callee_end false fs c
ends_there (Want mark) fs (e, (mid, (u, m))) = absurd (no_unary u)
ends_there (Target mark) fs h = absurd h
ends_there (Done mark) fs h = tail_end mark fs h
ends_there (Callee mark) fs h = callee_end mark fs h
ends_there Opened fs (inl (e, (rest, (w, k)))) = absurd (whole_opens w)
ends_there Opened fs (inr (c, k)) = absurd c
ends_there AtFile fs h = absurd h
ends_there Loaded fs h = refl

bottom_end : (fs : List Frame) → is_bottom fs ≡ true → After fs []
bottom_end [] h = tt
bottom_end (InCommand n ∷ fs) h = tt
bottom_end (InGroup mark ∷ fs) h = cc
bottom_end (InCall n mark ∷ fs) h = cc

pub ends_back : (mode : Mode) (fs : List Frame) → may_end mode fs ≡ true → Lang mode fs []
ends_back Start fs h = (_, last nothing)
ends_back (Named ld) fs h = inr (inr (inr (callee_word false [] [] tt)))
ends_back Whole fs h = cc
ends_back Variable fs h = inr (callee_word false fs [] (bottom_end fs h))
ends_back (Want mark) fs h = cc
ends_back (Target mark) fs h = cc
ends_back (Done mark) fs h = no_tail mark (After fs) [] (bottom_end fs h)
ends_back (Callee mark) fs h = callee_word mark fs [] (bottom_end fs h)
ends_back Opened fs h = cc
ends_back AtFile fs h = cc
ends_back Loaded fs h = tt
