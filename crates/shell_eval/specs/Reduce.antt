-- The one due reduction: the leftmost innermost.
use Rattle.std.specs.Prelude.{ℕ, Bool, ◌==◌, not, if◌then◌else◌, List, [], ◌∷◌, map, slice_index, Option, Some, None, Ok, Err}
use Rattle.std.specs.List.{range_with_len}
use Rattle.shell_parse.specs.declared.tree.BinOp.{BinOp}
use Rattle.shell_parse.specs.declared.tree.BinOp.TheVariants as ops
use Rattle.symbol_table.specs.declared.symbol.Symbol.{Symbol}
use Rattle.symbol_table.specs.declared.symbol.SymKind.{SymKind}
use Rattle.symbol_table.specs.declared.symbol.SymKind.TheVariants.{TextSym, DataSym}
use Rattle.shell_eval.specs.declared.fault.EvalFault.{EvalFault}
use Rattle.shell_eval.specs.declared.fault.EvalFault.TheVariants.{Undefined, AccessAt}
use Rattle.symbol_table.specs.Newest.{find}
use Rattle.ppc_core.specs.Words.{bit}
use Rattle.shell_eval.specs.Operators.{before_word}
use Rattle.shell_eval.specs.State.{State}
use Rattle.shell_eval.specs.Words.{Tried, combined, word_read, word_stored, is_value, name_word, name_value, string_made, variable_made}
use Rattle.shell_eval.specs.Pending.{Pending, Number, Str, Name, Lone, Address, Word, Unary, Binary, Choice, SetName, SetWord, New, Call, Hole, Args, End, Then, Logic, All, Any}

-- of a tree or of arguments T, whose values are V: it is a value; one reduction is made;
-- a call is due, with its ten words, and the tree left has a hole in the call's place; a fault; or a call's answer
-- is awaited
pub data Outcome (V T : Type 0) : Type 0 where
  Is : V → Outcome V T
  Steps : State → T → Outcome V T
  Calls : ℕ → List ℕ → T → Outcome V T
  Faults : EvalFault → Outcome V T
  Waits : Outcome V T

-- what is due in a part is due in the whole; if the part is a value, the whole goes on
abbrev pub within : {V T W U : Type 0} → Outcome V T → (T → U) → (V → Outcome W U) → Outcome W U
within (Is v) around go = go v
within (Steps s t) around go = Steps s (around t)
within (Calls f vs t) around go = Calls f vs (around t)
within (Faults e) around go = Faults e
within Waits around go = Waits

-- a step to a value
abbrev pub given : Tried → Outcome ℕ Pending
given (Ok m) = Steps m.state (Number m.word)
given (Err e) = Faults e

-- the ten words of a call; words without an argument are 0
abbrev pub padded : List ℕ → List ℕ
padded values = map (λ place. slice_index values place) (range_with_len 0 10)

-- whether the left side decides
abbrev pub decides : Logic → ℕ → Bool
decides All n = n == 0
decides Any n = not (n == 0)

-- the left side decides, or the value says whether the right side is not 0
abbrev pub chosen : Logic → ℕ → Pending → Pending
chosen w n b = if decides w n then Number (bit (not (n == 0))) else Binary ops.Ne b (Number 0)

-- a name alone, by its symbol and the symbol's kind
abbrev pub lone_by : State → List ℕ → Option Symbol → SymKind → Outcome ℕ Pending
lone_by s x (Some y) TextSym = Steps s (Call (Number y.value) End)
lone_by s x y _ = given (name_word s x)

-- the kind of a symbol, if there is one, else data
abbrev pub kind_or_data : Option Symbol → SymKind
kind_or_data None = DataSym
kind_or_data (Some y) = y.kind

-- a name alone: the call of a text symbol, otherwise the name's word
abbrev pub lone : State → List ℕ → Outcome ℕ Pending
lone s x = lone_by s x (find s.symbols x) (kind_or_data (find s.symbols x))

-- an assignment by an operator has read the old word
abbrev pub old_read : BinOp → ℕ → Pending → Tried → Outcome ℕ Pending
old_read op at e (Ok m) = Steps m.state (SetWord None (Number at) (Binary op (Number m.word) e))
old_read op at e (Err f) = Faults f

-- an assignment at a known address, before its right side; by an operator, the old word is read now
abbrev pub resolved : State → Option BinOp → ℕ → Pending → Outcome ℕ Pending
resolved s None at e = Steps s (SetWord None (Number at) e)
resolved s (Some op) at e = old_read op at e (word_read s at)

-- an assignment to a name, before its right side, by the name's newest symbol
abbrev pub left_by : State → Option BinOp → List ℕ → Pending → Option Symbol → Outcome ℕ Pending
left_by s None x e None = Steps s (New x e)
left_by s (Some op) x e None = Faults (Undefined x)
left_by s aop x e (Some y) = if is_value y.kind then Faults (AccessAt y.value) else resolved s aop y.value e

-- an assignment at an address, with the due reduction of its right side
abbrev pub set_at : State → Option BinOp → ℕ → Pending → Outcome ℕ Pending → Outcome ℕ Pending
set_at s None at e due = within due (SetWord None (Number at)) (λ v. given (word_stored s at v))
set_at s (Some op) at e due = resolved s (Some op) at e

-- the due reduction of a tree, and of arguments
abbrev mutual
  pub reduce : State → Pending → Outcome ℕ Pending
  reduce s (Number n) = Is n
  reduce s (Str b) = given (string_made s b)
  reduce s (Name x) = given (name_word s x)
  reduce s (Lone x) = lone s x
  reduce s (Address x) = given (name_value s x)
  reduce s (Word a) = within (reduce s a) Word (λ n. given (word_read s n))
  reduce s (Unary op a) = within (reduce s a) (Unary op) (λ n. Steps s (Number (before_word op n)))
  reduce s (Binary op a b) =
      within (reduce s a) (λ t. Binary op t b) (λ m. within (reduce s b) (Binary op (Number m)) (λ n. given (combined s op m n)))
  reduce s (Choice w a b) = within (reduce s a) (λ t. Choice w t b) (λ n. Steps s (chosen w n b))
  reduce s (SetName aop x e) = left_by s aop x e (find s.symbols x)
  reduce s (SetWord aop a e) = within (reduce s a) (λ t. SetWord aop t e) (λ at. set_at s aop at e (reduce s e))
  reduce s (New x e) = within (reduce s e) (New x) (λ v. given (variable_made s x v))
  reduce s (Call f es) =
      within (reduce s f) (λ t. Call t es) (λ callee. within (reduce_all s es) (Call (Number callee)) (λ vs. Calls callee (padded vs) Hole))
  reduce s Hole = Waits

  pub reduce_all : State → Args → Outcome (List ℕ) Args
  reduce_all s End = Is []
  reduce_all s (Then e es) =
      within (reduce s e) (λ t. Then t es) (λ v. within (reduce_all s es) (Then (Number v)) (λ vs. Is (v ∷ vs)))
