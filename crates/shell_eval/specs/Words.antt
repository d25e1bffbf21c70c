-- What names, strings, addresses and new variables give.
use Rattle.std.specs.Prelude.{ℕ, ◌+◌, ◌==◌, Bool, true, false, if◌then◌else◌, List, [], ◌∷◌, ◌++◌, length, replicate, Option, Some, None, Result, Ok, Err, codes, nat_le}
use Rattle.std.specs.Result.{result_ok}
use Rattle.wind_base.specs.Limits.{most_symbols}
use Rattle.board_mem.specs.Memory.{with_bytes}
use Rattle.board_bus.specs.BusState.{BusState}
use Rattle.board_bus.specs.Access.{faults_at, answer_at, loaded_at, stored_at}
use Rattle.mem_partition.specs.Place.{rounded}
use Rattle.mem_partition.specs.State.{PartState, alloc_of, after_alloc}
use Rattle.mem_partition.specs.declared.block.Class.TheVariants.{Kernel}
use Rattle.symbol_table.specs.Newest.{find}
use Rattle.symbol_table.specs.declared.symbol.Symbol.{Symbol}
use Rattle.symbol_table.specs.declared.symbol.SymKind.{SymKind}
use Rattle.symbol_table.specs.declared.symbol.SymKind.TheVariants.{TextSym, DataSym, BssSym, AbsSym}
use Rattle.shell_parse.specs.declared.tree.BinOp.{BinOp}
use Rattle.shell_eval.specs.declared.fault.EvalFault.{EvalFault}
use Rattle.shell_eval.specs.declared.fault.EvalFault.TheVariants.{Undefined, AccessAt, DivideByZero, NoRoom, SymbolsFull}
use Rattle.shell_eval.specs.Operators.{between_words}
use Rattle.shell_eval.specs.State.{State}

-- a word, and the state left after it was made
pub record Made : Type 0 where
  pub word : ℕ
  pub state : State

-- a word with the state left, or a fault, which changes nothing
abbrev pub Tried : Type 0
Tried = Result Made EvalFault

-- this word, with this state left
abbrev pub made : ℕ → State → Tried
made word s = Ok (record { word = word; state = s })

-- a value, or the fault of a divisor of 0
abbrev pub combined_by : State → Option ℕ → Tried
combined_by s None = Err DivideByZero
combined_by s (Some n) = made n s

-- an operator with two operands, as a step
abbrev pub combined : State → BinOp → ℕ → ℕ → Tried
combined s op a b = combined_by s (between_words op a b)

-- the word at an address, over the bus
unfoldable pub word_read : State → ℕ → Tried
word_read s at =
    if faults_at s.memory 4 at then Err (AccessAt at)
    else made (answer_at s.memory 4 at) (record s { memory = loaded_at s.memory 4 at })

-- a word stored at an address, over the bus
unfoldable pub word_stored : State → ℕ → ℕ → Tried
word_stored s at v =
    if faults_at s.memory 4 at then Err (AccessAt at) else made v (record s { memory = stored_at s.memory 4 at v })

-- whether a symbol of this kind stands for its value; other symbols stand for the word there
abbrev pub is_value : SymKind → Bool
is_value TextSym = true
is_value AbsSym = true
is_value DataSym = false
is_value BssSym = false

-- the word of a name, by its symbol
abbrev pub name_by : State → List ℕ → Option Symbol → Tried
name_by s x None = Err (Undefined x)
name_by s x (Some y) = if is_value y.kind then made y.value s else word_read s y.value

-- the word of a name: its newest symbol's value, or the word there
unfoldable pub name_word : State → List ℕ → Tried
name_word s x = name_by s x (find s.symbols x)

-- the value of a name, by its symbol
abbrev pub address_by : State → List ℕ → Option Symbol → Tried
address_by s x None = Err (Undefined x)
address_by s x (Some y) = made y.value s

-- the value of a name's newest symbol
unfoldable pub name_value : State → List ℕ → Tried
name_value s x = address_by s x (find s.symbols x)

-- the Kernel block of n bytes that the partition gives, if it gives one
abbrev pub block_of : PartState → ℕ → Option ℕ
block_of pool n = result_ok (alloc_of pool n 1)

-- the partition with that block
abbrev pub with_block_of : PartState → ℕ → PartState
with_block_of pool n = after_alloc pool n 1 Kernel

-- memory with these bytes from an address of RAM on
abbrev pub with_ram : BusState → ℕ → List ℕ → BusState
with_ram memory at bytes = record memory { ram = with_bytes memory.ram at bytes }

-- a string in the block at this address, if there is one, followed by a zero
abbrev pub string_by : State → List ℕ → Option ℕ → Tried
string_by s text None = Err NoRoom
string_by s text (Some at) =
    made at (record s { pool = with_block_of s.pool (length text + 1); memory = with_ram s.memory at (text ++ 0 ∷ []) })

-- a string takes a block; the block's address is the string's value
unfoldable pub string_made : State → List ℕ → Tried
string_made s text = string_by s text (block_of s.pool (length text + 1))

-- the size of a variable in bytes
abbrev pub variable_bytes : ℕ
variable_bytes = 4

-- the line that reports a new symbol
unfoldable pub announcement : List ℕ → List ℕ
announcement x = codes "new symbol \"" ++ x ++ codes "\" added to symbol table.\n"

-- the symbol of a new variable at this address
abbrev pub variable : List ℕ → ℕ → Symbol
variable x at = record { name = x; value = at; kind = DataSym; global = true; group = 0 }

-- the state with a new variable at the address of its block, which is all zeros, and with the announcement
abbrev pub with_variable : State → List ℕ → ℕ → State
with_variable s x at = record {
  symbols = s.symbols ++ variable x at ∷ [];
  pool = with_block_of s.pool variable_bytes;
  memory = with_ram s.memory at (replicate (rounded variable_bytes) 0);
  output = s.output ++ announcement x;
}

-- a new variable in the block at this address, if there is one, gets its first word
abbrev pub variable_by : State → List ℕ → ℕ → Option ℕ → Tried
variable_by s x v None = Err NoRoom
variable_by s x v (Some at) = word_stored (with_variable s x at) at v

-- a new variable takes a symbol and a block; one without a name, which no line has, stays undefined
unfoldable pub variable_made : State → List ℕ → ℕ → Tried
variable_made s x v =
    if length x == 0 then Err (Undefined x)
    else if nat_le most_symbols (length s.symbols) then Err SymbolsFull
    else variable_by s x v (block_of s.pool variable_bytes)
