-- What one operation does to the code, the entries and the state.
use Rattle.std.specs.Prelude.{ℕ, ◌-◌, Bool, ◌==◌, not, if◌then◌else◌, List, [], ◌∷◌, length, map, drop, Option, Some, None, Ok, Err, nat_lt}
use Rattle.std.specs.List.{range_with_len}
use Rattle.shell_parse.specs.declared.tree.BinOp.{BinOp}
use Rattle.shell_eval.specs.declared.code.LeftSide.{LeftSide}
use Rattle.shell_eval.specs.declared.code.LeftSide.TheVariants as sides
use Rattle.shell_eval.specs.declared.code.Op.{Op}
use Rattle.shell_eval.specs.declared.code.Op.TheVariants as op
use Rattle.shell_eval.specs.declared.code.Entry.{Entry}
use Rattle.shell_eval.specs.declared.code.Entry.TheVariants as entries
use Rattle.symbol_table.specs.declared.symbol.Symbol.{Symbol}
use Rattle.symbol_table.specs.declared.symbol.SymKind.{SymKind}
use Rattle.symbol_table.specs.declared.symbol.SymKind.TheVariants.{TextSym}
use Rattle.shell_eval.specs.declared.fault.EvalFault.{EvalFault}
use Rattle.shell_eval.specs.declared.fault.EvalFault.TheVariants.{Undefined, AccessAt}
use Rattle.symbol_table.specs.Newest.{find}
use Rattle.shell_eval.specs.State.{State}
use Rattle.ppc_core.specs.Words.{bit}
use Rattle.shell_eval.specs.Operators.{before_word}
use Rattle.shell_eval.specs.Words.{Tried, combined, word_read, word_stored, is_value, name_word, name_value, string_made, variable_made}
use Rattle.shell_eval.specs.Pending.{All, Any}
use Rattle.shell_eval.specs.Reduce.{decides, kind_or_data, padded}

-- what an operation that doesn't change the code does with the state and the entries: it goes on, a call is due,
-- or a fault
pub data Effect : Type 0 where
  Puts : State → List Entry → Effect
  Asks : State → ℕ → List ℕ → List Entry → Effect
  Fails : State → EvalFault → Effect

-- the same with the code: it has ended with a value, it goes on, a call is due, or a fault
pub data Moved : Type 0 where
  Ends : State → ℕ → Moved
  Goes : State → List Op → List Entry → Moved
  Makes : State → ℕ → List ℕ → List Op → List Entry → Moved
  Stops : State → EvalFault → Moved

-- an effect, with the code left
abbrev pub onward : List Op → Effect → Moved
onward c (Puts s st) = Goes s c st
onward c (Asks s callee words st) = Makes s callee words c st
onward c (Fails s f) = Stops s f

-- the value on top
abbrev pub top_word : List Entry → ℕ
top_word (entries.Word n ∷ st) = n
top_word st = 0

-- the entry on top
abbrev pub top_entry : List Entry → Option Entry
top_entry [] = None
top_entry (e ∷ st) = Some e

-- the entries below
abbrev pub below : List Entry → List Entry
below [] = []
below (e ∷ st) = st

-- a word is pushed
abbrev pub pushes : State → Tried → List Entry → Effect
pushes s (Ok m) st = Puts m.state (entries.Word m.word ∷ st)
pushes s (Err f) st = Fails s f

-- the argument at a place, if the top n entries are arguments
abbrev pub argument : ℕ → List Entry → ℕ → ℕ
argument n st place = if nat_lt place n then top_word (drop (n - 1 - place) st) else 0

-- the ten words of a call with n arguments
abbrev pub arguments : ℕ → List Entry → List ℕ
arguments n st = map (argument n st) (range_with_len 0 10)

-- the call with the n arguments on top
abbrev pub asks : State → ℕ → List Entry → Effect
asks s n st = Asks s (top_word (drop n st)) (arguments n st) (below (drop n st))

-- a name alone, by its symbol and the symbol's kind
abbrev pub alone_by : State → List ℕ → Option Symbol → SymKind → List Entry → Effect
alone_by s x (Some y) TextSym st = Asks s y.value (padded []) st
alone_by s x y _ st = pushes s (name_word s x) st

-- a name alone
abbrev pub alone : State → List ℕ → List Entry → Effect
alone s x st = alone_by s x (find s.symbols x) (kind_or_data (find s.symbols x)) st

-- the left side of an assignment by an operator, with the old word
abbrev pub mixes : State → BinOp → ℕ → Tried → List Entry → Effect
mixes s o at (Ok m) st = Puts m.state (entries.Mixed o at m.word ∷ st)
mixes s o at (Err f) st = Fails s f

-- the left side of an assignment, by its address
abbrev pub places : State → Option BinOp → ℕ → List Entry → Effect
places s None at st = Puts s (entries.Place at ∷ st)
places s (Some o) at st = mixes s o at (word_read s at) st

-- the left name of an assignment, by its newest symbol
abbrev pub left_effect : State → Option BinOp → List ℕ → Option Symbol → List Entry → Effect
left_effect s None x None st = Puts s (entries.Unknown x ∷ st)
left_effect s (Some o) x None st = Fails s (Undefined x)
left_effect s aop x (Some y) st = if is_value y.kind then Fails s (AccessAt y.value) else places s aop y.value st

-- the right side of an assignment by an operator
abbrev pub mixed_effect : State → ℕ → Tried → List Entry → Effect
mixed_effect s at (Ok m) st = pushes m.state (word_stored m.state at m.word) st
mixed_effect s at (Err f) st = Fails s f

-- the form that a left side began, with the value of its right side
abbrev pub close_effect : State → ℕ → Option Entry → List Entry → Effect
close_effect s v (Some entries.Truth) st = Puts s (entries.Word (bit (not (v == 0))) ∷ st)
close_effect s v (Some (entries.Place at)) st = pushes s (word_stored s at v) st
close_effect s v (Some (entries.Mixed o at w)) st = mixed_effect s at (combined s o w v) st
close_effect s v (Some (entries.Unknown x)) st = pushes s (variable_made s x v) st
close_effect s v _ st = Puts s (entries.Word v ∷ st)

-- a left side that may decide; if it does, only the last operations stay
abbrev pub decides_step : State → Bool → ℕ → ℕ → List Op → List Entry → Moved
decides_step s decided keep n c st =
    if decided then Goes s (drop (length c - keep) c) (entries.Word (bit (not (n == 0))) ∷ st) else Goes s c (entries.Truth ∷ st)

-- a left side, by its value
abbrev pub side_step : State → LeftSide → ℕ → ℕ → List Op → List Entry → Moved
side_step s sides.All keep n c st = decides_step s (decides All n) keep n c st
side_step s sides.Any keep n c st = decides_step s (decides Any n) keep n c st
side_step s (sides.Place aop) keep n c st = onward c (places s aop n st)

-- what an operation does
abbrev pub op_step : State → Op → List Op → List Entry → Moved
op_step s (op.Push n) c st = Goes s c (entries.Word n ∷ st)
op_step s (op.Str b) c st = onward c (pushes s (string_made s b) st)
op_step s (op.Name x) c st = onward c (pushes s (name_word s x) st)
op_step s (op.Lone x) c st = onward c (alone s x st)
op_step s (op.Address x) c st = onward c (pushes s (name_value s x) st)
op_step s op.Word c st = onward c (pushes s (word_read s (top_word st)) (below st))
op_step s (op.Unary o) c st = Goes s c (entries.Word (before_word o (top_word st)) ∷ below st)
op_step s (op.Binary o) c st = onward c (pushes s (combined s o (top_word (below st)) (top_word st)) (below (below st)))
op_step s (op.LeftSide w keep) c st = side_step s w keep (top_word st) c (below st)
op_step s (op.Left aop x) c st = onward c (left_effect s aop x (find s.symbols x) st)
op_step s op.Close c st = onward c (close_effect s (top_word st) (top_entry (below st)) (below (below st)))
op_step s (op.Call n) c st = onward c (asks s n st)

-- what the next operation does, unless the code has ended
abbrev pub move : State → List Op → List Entry → Moved
move s [] st = Ends s (top_word st)
move s (o ∷ c) st = op_step s o c st
