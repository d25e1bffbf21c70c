-- The grammar of a line, over its tokens: the project's own narrowing of the shell's language, as the shell
-- chapter of the
-- VxWorks 5.4 Programmer's Guide has it. `Unary ts e rest` says that ts begins with the operand e, followed by rest.
use Rattle.std.specs.Prelude.{◌≡◌, ℕ, zero, suc, Bool, true, false, IsTrue, List, [], ◌∷◌, Option, bytes_eq, codes}
use Rattle.shell_parse.specs.declared.tree.BinOp.{BinOp}
use Rattle.shell_parse.specs.declared.tree.BinOp.TheVariants.{Minus, Times, And}
use Rattle.shell_parse.specs.declared.tree.UnOp.TheVariants as before
use Rattle.shell_parse.specs.declared.token.Token.{Token}
use Rattle.shell_parse.specs.declared.token.Token.TheVariants.{Number, Str, Name, Operator, Set, Not, Com, Open, Close, Comma, Semi, Redirect, File}
use Rattle.shell_parse.specs.Levels.{level_of, levels}
use Rattle.shell_parse.specs.Trees.{PlainTree, Arguments, End, Then, PlainStmt, Nothing, Load, Command, Expr}
use Rattle.shell_parse.specs.Trees as trees

-- the most arguments of a call
abbrev pub most_arguments : ℕ
most_arguments = 10

mutual
  -- an expression: operands with operators in between, or an assignment, whose left side is a name, or a star and
  -- an operand
  pub data Expression : List Token → PlainTree → List Token → Type 0 where
    plain : {ts rest : List Token} {e : PlainTree} → Level levels ts e rest → Expression ts e rest
    set_name : {x : List ℕ} {op : Option BinOp} {ts rest : List Token} {e : PlainTree} → Expression ts e rest
        → Expression (Name x ∷ Set op ∷ ts) (trees.SetName op x e) rest
    set_word : {op : Option BinOp} {ts mid rest : List Token} {a e : PlainTree} → Unary ts a (Set op ∷ mid) → Expression mid e rest
        → Expression (Operator Times ∷ ts) (trees.SetWord op a e) rest

  -- operands with operators of the tightest n levels in between
  pub data Level : ℕ → List Token → PlainTree → List Token → Type 0 where
    operand : {ts rest : List Token} {e : PlainTree} → Unary ts e rest → Level zero ts e rest
    level : {n : ℕ} {ts mid rest : List Token} {a e : PlainTree} → Level n ts a mid → More n a mid e rest → Level (suc n) ts e rest

  -- e is a, followed by operators of level n and their right sides, from left to right
  pub data More : ℕ → PlainTree → List Token → PlainTree → List Token → Type 0 where
    stop : {n : ℕ} {a : PlainTree} {ts : List Token} → More n a ts a ts
    operator : {n : ℕ} {op : BinOp} {a b e : PlainTree} {ts mid rest : List Token} → level_of op ≡ n → Level n ts b mid
        → More n (trees.Binary op a b) mid e rest → More n a (Operator op ∷ ts) e rest

  -- an operand: an operator before another operand, the address of a name, a literal, or a callee and the calls
  -- after it
  pub data Unary : List Token → PlainTree → List Token → Type 0 where
    negated : {ts rest : List Token} {e : PlainTree} → Unary ts e rest → Unary (Operator Minus ∷ ts) (trees.Unary before.Neg e) rest
    inverted : {ts rest : List Token} {e : PlainTree} → Unary ts e rest → Unary (Not ∷ ts) (trees.Unary before.Not e) rest
    complement : {ts rest : List Token} {e : PlainTree} → Unary ts e rest → Unary (Com ∷ ts) (trees.Unary before.Com e) rest
    word : {ts rest : List Token} {e : PlainTree} → Unary ts e rest → Unary (Operator Times ∷ ts) (trees.Word e) rest
    address : {x : List ℕ} {rest : List Token} → Unary (Operator And ∷ Name x ∷ rest) (trees.Address x) rest
    number : {n : ℕ} {rest : List Token} → Unary (Number n ∷ rest) (trees.Number n) rest
    string : {text : List ℕ} {rest : List Token} → Unary (Str text ∷ rest) (trees.Str text) rest
    name : {x : List ℕ} {ts rest : List Token} {e : PlainTree} → Calls (trees.Name x) ts e rest → Unary (Name x ∷ ts) e rest
    group : {ts mid rest : List Token} {callee e : PlainTree} → Expression ts callee (Close ∷ mid) → Calls callee mid e rest → Unary (Open ∷ ts) e rest

  -- e is the callee and the calls that follow it; each calls what comes before it
  pub data Calls : PlainTree → List Token → PlainTree → List Token → Type 0 where
    no_call : {callee : PlainTree} {ts : List Token} → Calls callee ts callee ts
    call : {callee e : PlainTree} {es : Arguments} {ts mid rest : List Token} → Args ts es (Close ∷ mid) → Calls (trees.Call callee es) mid e rest
        → Calls callee (Open ∷ ts) e rest

  -- the arguments between parentheses: none, or some
  pub data Args : List Token → Arguments → List Token → Type 0 where
    none : {ts : List Token} → Args ts End ts
    some : {ts rest : List Token} {es : Arguments} → Listed most_arguments ts es rest → Args ts es rest

  -- one argument or several, at most n, with commas in between
  pub data Listed : ℕ → List Token → Arguments → List Token → Type 0 where
    one : {n : ℕ} {ts rest : List Token} {e : PlainTree} → Expression ts e rest → Listed (suc n) ts (Then e End) rest
    next : {n : ℕ} {ts mid rest : List Token} {e : PlainTree} {es : Arguments} → Expression ts e (Comma ∷ mid) → Listed n mid es rest
        → Listed (suc n) ts (Then e es) rest

-- whether a name that begins a statement and is followed by these tokens is called without parentheses
abbrev pub begins_argument : List Token → Bool
begins_argument (Number n ∷ ts) = true
begins_argument (Str text ∷ ts) = true
begins_argument (Name x ∷ ts) = true
begins_argument (Not ∷ ts) = true
begins_argument (Com ∷ ts) = true
begins_argument _ = false

-- whether a name is `ld`, which begins the statement that loads a file
abbrev pub is_ld : List ℕ → Bool
is_ld x = bytes_eq x (codes "ld")

-- a statement: nothing, the load of a file, a name and its arguments, or an expression
pub data IsStmt : List Token → PlainStmt → List Token → Type 0 where
  nothing : {ts : List Token} → IsStmt ts Nothing ts
  load : {x file : List ℕ} {rest : List Token} → IsTrue (is_ld x) → IsStmt (Name x ∷ Redirect ∷ File file ∷ rest) (Load file) rest
  command : {callee : List ℕ} {es : Arguments} {ts rest : List Token} → IsTrue (begins_argument ts) → Listed most_arguments ts es rest
      → IsStmt (Name callee ∷ ts) (Command callee es) rest
  value : {e : PlainTree} {ts rest : List Token} → Expression ts e rest → IsStmt ts (Expr e) rest

-- the line of these tokens has these statements
pub data IsLine : List Token → List PlainStmt → Type 0 where
  last : {ts : List Token} {s : PlainStmt} → IsStmt ts s [] → IsLine ts (s ∷ [])
  followed : {ts mid : List Token} {s : PlainStmt} {ss : List PlainStmt} → IsStmt ts s (Semi ∷ mid) → IsLine mid ss → IsLine ts (s ∷ ss)
