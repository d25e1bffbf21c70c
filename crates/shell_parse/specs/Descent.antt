-- Reading trees from the first tokens of a list, as far as they go, at most n calls deep.
use Rattle.std.specs.Prelude.{ℕ, zero, suc, ◌+◌, ◌*◌, List, [], ◌∷◌, length, Option, Some, None, ◌==◌, if◌then◌else◌}
use Rattle.shell_parse.specs.declared.tree.BinOp.{BinOp}
use Rattle.shell_parse.specs.declared.tree.BinOp.TheVariants.{Minus, Times, And}
use Rattle.shell_parse.specs.declared.tree.UnOp.TheVariants as before
use Rattle.shell_parse.specs.declared.token.Token.{Token}
use Rattle.shell_parse.specs.declared.token.Token.TheVariants.{Number, Str, Name, Operator, Set, Not, Com, Open, Close, Comma, Semi, Redirect, File}
use Rattle.shell_parse.specs.declared.descent.Mark.{Mark}
use Rattle.shell_parse.specs.declared.descent.Mark.TheVariants as marks
use Rattle.shell_parse.specs.Levels.{level_of, levels}
use Rattle.shell_parse.specs.Grammar.{most_arguments, is_ld}
use Rattle.shell_parse.specs.Trees.{PlainTree, Arguments, End, Then, PlainStmt, Nothing, Load, Command, Expr}
use Rattle.shell_parse.specs.Trees as trees

-- what a second reader makes of the rest that the first one leaves
infixl 10 ◌>>=◌
abbrev pub ◌>>=◌ : {A B : Type 0} → Option A → (A → Option B) → Option B
(Some x) >>= f = f x
None >>= f = None

-- what is read from the first tokens, and the tokens after it
abbrev pub Reads : Type 0 → Type 0
Reads X = Option (X × List Token)

-- what is read, as a part of something else
abbrev pub mapped : {X Y : Type 0} → (X → Y) → Reads X → Reads Y
mapped f read = do
  x ← read
  Some (f x.0, x.1)

-- the tokens after a closing parenthesis
abbrev pub closed : List Token → Option (List Token)
closed (Close ∷ ts) = Some ts
closed _ = None

-- the tokens after an opening parenthesis
abbrev pub opened : List Token → Option (List Token)
opened (Open ∷ ts) = Some ts
opened _ = None

-- the tokens after a comma
abbrev pub parted : List Token → Option (List Token)
parted (Comma ∷ ts) = Some ts
parted _ = None

-- the tokens after a star
abbrev pub starred : List Token → Option (List Token)
starred (Operator Times ∷ ts) = Some ts
starred _ = None

-- the tokens after a mark
abbrev pub after_mark : Mark → List Token → Option (List Token)
after_mark marks.Close = closed
after_mark marks.Open = opened
after_mark marks.Comma = parted
after_mark marks.Star = starred

-- the name that comes first
abbrev pub named : List Token → Reads (List ℕ)
named (Name x ∷ ts) = Some (x, ts)
named _ = None

-- the assignment that comes first
abbrev pub assigned : List Token → Reads (Option BinOp)
assigned (Set op ∷ ts) = Some (op, ts)
assigned _ = None

-- the name and the assignment that come first
abbrev pub name_assigned : List Token → Option (List ℕ × Option BinOp × List Token)
name_assigned ts = do
  x ← named ts
  op ← assigned x.1
  Some (x.0, op.0, op.1)

-- the operator of this level that comes first
abbrev pub operator_at : ℕ → List Token → Reads BinOp
operator_at n (Operator op ∷ ts) = if level_of op == n then Some (op, ts) else None
operator_at n _ = None

-- the level of the operator that comes first, or the number of levels if none does
abbrev pub level_ahead : List Token → ℕ
level_ahead (Operator op ∷ ts) = level_of op
level_ahead _ = levels

-- a right side for each operator of a level, from left to right
abbrev pub more_by : (List Token → Reads PlainTree) → (PlainTree → List Token → Reads PlainTree) → PlainTree → List Token → Reads BinOp → Reads PlainTree
more_by right go a ts (Some x) = do
  b ← right x.1
  go (trees.Binary x.0 a b.0) b.1
more_by right go a ts None = Some (a, ts)

-- after an operand, the operators of the tightest n levels, one level after another
abbrev pub climb_by : (ℕ → PlainTree → List Token → Reads PlainTree) → (ℕ → PlainTree → List Token → Reads PlainTree) → ℕ → PlainTree → List Token → Reads PlainTree
climb_by climb more zero a ts = Some (a, ts)
climb_by climb more (suc n) a ts = do
  b ← climb n a ts
  more n b.0 b.1

-- after a star and its operand: an assignment, or operators
abbrev pub star_by : (List Token → Reads PlainTree) → (PlainTree → List Token → Reads PlainTree) → PlainTree → List Token → Reads (Option BinOp) → Reads PlainTree
star_by whole climb a ts (Some op) = mapped (trees.SetWord op.0 a) (whole op.1)
star_by whole climb a ts None = climb (trees.Word a) ts

-- an expression: an assignment to a name, something that begins with a star, or else operands
abbrev pub whole_by : (List Token → Reads PlainTree) → (List Token → Reads PlainTree) → (List Token → Reads PlainTree) → List Token
    → Option (List ℕ × Option BinOp × List Token) → Option (List Token) → Reads PlainTree
whole_by whole star operands ts (Some left) us = mapped (trees.SetName left.1 left.0) (whole left.2)
whole_by whole star operands ts None (Some us) = star us
whole_by whole star operands ts None None = operands ts

-- an operand
abbrev pub unary_by : (List Token → Reads PlainTree) → (List Token → Reads PlainTree) → (PlainTree → List Token → Reads PlainTree) → List Token → Reads PlainTree
unary_by operand whole calls (Operator Minus ∷ ts) = mapped (trees.Unary before.Neg) (operand ts)
unary_by operand whole calls (Operator Times ∷ ts) = mapped trees.Word (operand ts)
unary_by operand whole calls (Operator And ∷ ts) = mapped trees.Address (named ts)
unary_by operand whole calls (Not ∷ ts) = mapped (trees.Unary before.Not) (operand ts)
unary_by operand whole calls (Com ∷ ts) = mapped (trees.Unary before.Com) (operand ts)
unary_by operand whole calls (Number n ∷ ts) = Some (trees.Number n, ts)
unary_by operand whole calls (Str text ∷ ts) = Some (trees.Str text, ts)
unary_by operand whole calls (Name x ∷ ts) = calls (trees.Name x) ts
unary_by operand whole calls (Open ∷ ts) = do
  e ← whole ts
  rest ← closed e.1
  calls e.0 rest
unary_by operand whole calls _ = None

-- the calls after a callee
abbrev pub calls_by : (List Token → Reads Arguments) → (PlainTree → List Token → Reads PlainTree) → PlainTree → List Token → Option (List Token) → Reads PlainTree
calls_by arguments go callee ts (Some us) = do
  es ← arguments us
  go (trees.Call callee es.0) es.1
calls_by arguments go callee ts None = Some (callee, ts)

-- the arguments after this one, if a comma follows it
abbrev pub listed_by : (List Token → Reads Arguments) → PlainTree → List Token → Option (List Token) → Reads Arguments
listed_by go e ts (Some us) = mapped (Then e) (go us)
listed_by go e ts None = Some (Then e End, ts)

-- the arguments of a call and its closing parenthesis
abbrev pub args_by : (List Token → Reads Arguments) → List Token → Option (List Token) → Reads Arguments
args_by listed ts (Some us) = Some (End, us)
args_by listed ts None = do
  es ← listed ts
  rest ← closed es.1
  Some (es.0, rest)

-- the first number says how many calls deep to read; listed_at reads at most k arguments
unfoldable mutual
  pub whole_at : ℕ → List Token → Reads PlainTree
  whole_at zero ts = None
  whole_at (suc n) ts = whole_by (λ us. whole_at n us) (λ us. star_at n us) (λ us. level_at n levels us) ts (name_assigned ts) (starred ts)

  pub star_at : ℕ → List Token → Reads PlainTree
  star_at zero ts = None
  star_at (suc n) ts = do
    a ← unary_at n ts
    star_by (λ us. whole_at n us) (λ b us. climb_at n levels b us) a.0 a.1 (assigned a.1)

  pub climb_at : ℕ → ℕ → PlainTree → List Token → Reads PlainTree
  climb_at zero k a ts = None
  climb_at (suc n) k a ts = climb_by (λ i b us. climb_at n i b us) (λ i b us. more_at n i b us) k a ts

  pub more_at : ℕ → ℕ → PlainTree → List Token → Reads PlainTree
  more_at zero k a ts = None
  more_at (suc n) k a ts = more_by (λ us. level_at n k us) (λ b us. more_at n k b us) a ts (operator_at k ts)

  pub level_at : ℕ → ℕ → List Token → Reads PlainTree
  level_at zero k ts = None
  level_at (suc n) k ts = do
    a ← unary_at n ts
    climb_at n k a.0 a.1

  pub unary_at : ℕ → List Token → Reads PlainTree
  unary_at zero ts = None
  unary_at (suc n) ts = unary_by (λ us. unary_at n us) (λ us. whole_at n us) (λ a us. calls_at n a us) ts

  pub calls_at : ℕ → PlainTree → List Token → Reads PlainTree
  calls_at zero a ts = None
  calls_at (suc n) a ts = calls_by (λ us. args_at n us) (λ b us. calls_at n b us) a ts (opened ts)

  pub args_at : ℕ → List Token → Reads Arguments
  args_at zero ts = None
  args_at (suc n) ts = args_by (λ us. listed_at n most_arguments us) ts (closed ts)

  pub listed_at : ℕ → ℕ → List Token → Reads Arguments
  listed_at zero k ts = None
  listed_at (suc n) zero ts = None
  listed_at (suc n) (suc k) ts = do
    e ← whole_at n ts
    listed_by (λ us. listed_at n k us) e.0 e.1 (parted e.1)

-- after `ld <`, the file
abbrev pub file_by : List Token → Reads PlainStmt
file_by (File file ∷ ts) = Some (Load file, ts)
file_by _ = None

-- the statement that begins with this name: a command, a load or an expression, by the token after it
abbrev pub named_by : (List Token → Reads PlainTree) → (List Token → Reads Arguments) → List ℕ → List Token → Reads PlainStmt
named_by whole listed callee (Number n ∷ ts) = mapped (Command callee) (listed (Number n ∷ ts))
named_by whole listed callee (Str text ∷ ts) = mapped (Command callee) (listed (Str text ∷ ts))
named_by whole listed callee (Name x ∷ ts) = mapped (Command callee) (listed (Name x ∷ ts))
named_by whole listed callee (Not ∷ ts) = mapped (Command callee) (listed (Not ∷ ts))
named_by whole listed callee (Com ∷ ts) = mapped (Command callee) (listed (Com ∷ ts))
named_by whole listed callee (Redirect ∷ ts) = if is_ld callee then file_by ts else None
named_by whole listed callee ts = mapped Expr (whole (Name callee ∷ ts))

-- the statement that comes first
abbrev pub stmt_by : (List Token → Reads PlainTree) → (List Token → Reads Arguments) → List Token → Reads PlainStmt
stmt_by whole listed [] = Some (Nothing, [])
stmt_by whole listed (Semi ∷ ts) = Some (Nothing, Semi ∷ ts)
stmt_by whole listed (Name callee ∷ ts) = named_by whole listed callee ts
stmt_by whole listed ts = mapped Expr (whole ts)

-- the statement that comes first, with its expressions read at most n calls deep
unfoldable pub stmt_at : ℕ → List Token → Reads PlainStmt
stmt_at n ts = stmt_by (λ us. whole_at n us) (λ us. listed_at n most_arguments us) ts

-- the statements from this one on, with these tokens after it
abbrev pub line_by : (List Token → Option (List PlainStmt)) → PlainStmt → List Token → Option (List PlainStmt)
line_by go s [] = Some (s ∷ [])
line_by go s (Semi ∷ ts) = do
  ss ← go ts
  Some (s ∷ ss)
line_by go s _ = None

-- at most k statements, each read at most n calls deep
unfoldable pub line_at : ℕ → ℕ → List Token → Option (List PlainStmt)
line_at zero n ts = None
line_at (suc k) n ts = do
  s ← stmt_at n ts
  line_by (λ us. line_at k n us) s.0 s.1

-- the statements of a line, whose length bounds their number and depth; none if the line has no tree
abbrev pub stmts_of : List Token → Option (List PlainStmt)
stmts_of ts = line_at (length ts + 1) (20 * length ts + 20) ts
