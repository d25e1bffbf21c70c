-- The row of symAdd.
use Rattle.std.specs.Prelude.{ℕ, List, [], ◌∷◌, ◌++◌, length, true, ◌==◌, ◌||◌, nat_le, nat_lt, if◌then◌else◌, Option, None, Some}
use Rattle.wind_base.specs.Limits.{ok_word, longest_name, most_symbols}
use Rattle.wind_base.specs.declared.errno.Errno.{Errno}
use Rattle.wind_base.specs.declared.errno.Errno.TheVariants as errors
use Rattle.symbol_table.specs.declared.symbol.Symbol.{Symbol}
use Rattle.symbol_table.specs.declared.symbol.SymKind.{SymKind}
use Rattle.symbol_table.specs.declared.symbol.SymKind.TheVariants as kinds
use Rattle.board_mem.specs.Memory.{string_at}
use Rattle.kernel_world.specs.declared.reply.Reply.{Reply}
use Rattle.kernel_world.specs.declared.reply.Reply.TheVariants.{Answer, Refusal}

-- the symbols after the effect of a call, and how its caller is answered
pub record SymbolRow : Type 0 where
  pub symbols : List Symbol
  pub reply : Reply

-- the kind that has this number: this project's own table
abbrev pub kind_of_number : ℕ → Option SymKind
kind_of_number n =
    if n == 1 then Some kinds.TextSym
    else if n == 2 then Some kinds.DataSym
    else if n == 3 then Some kinds.BssSym
    else if n == 4 then Some kinds.AbsSym
    else None

abbrev pub refused_symbol : List Symbol → Errno → SymbolRow
refused_symbol ss e = record { symbols = ss; reply = Refusal e }

-- a global symbol of group 0, added after the others
abbrev pub with_kind : List Symbol → List ℕ → ℕ → Option SymKind → SymbolRow
with_kind ss name value None = refused_symbol ss errors.BadKind
with_kind ss name value (Some kind) =
    if nat_le most_symbols (length ss) then refused_symbol ss errors.SymbolsFull
    else record {
      symbols = ss ++ record { name = name; value = value; kind = kind; global = true; group = 0 } ∷ [];
      reply = Answer ok_word;
    }

-- a name has from 1 to 255 bytes
abbrev pub with_name : List Symbol → ℕ → ℕ → Option (List ℕ) → SymbolRow
with_name ss value kind None = refused_symbol ss errors.BadAddress
with_name ss value kind (Some name) =
    if length name == 0 || nat_lt longest_name (length name) then refused_symbol ss errors.BadAddress
    else with_kind ss name value (kind_of_number kind)

-- symAdd: the table must be 0, and the group isn't used
abbrev pub symbol_row : List Symbol → List ℕ → ℕ → ℕ → ℕ → ℕ → SymbolRow
symbol_row ss ram table name value kind =
    if table == 0 then with_name ss value kind (string_at ram name)
    else refused_symbol ss errors.ObjIdError
