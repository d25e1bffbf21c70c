-- The rows of the calls that write texts.
use Rattle.std.specs.Prelude.{ℕ, ◌*◌, ◌/◌, ◌==◌, ◌||◌, Bool, nat_lt, if◌then◌else◌, List, [], length, Option, None, Some}
use Rattle.wind_base.specs.Limits.{ok_word}
use Rattle.wind_base.specs.declared.errno.Errno.{Errno}
use Rattle.wind_base.specs.declared.errno.Errno.TheVariants as errors
use Rattle.board_mem.specs.Memory.{has, string_at}
use Rattle.symbol_table.specs.declared.symbol.Symbol.{Symbol}
use Rattle.module_loader.specs.declared.module.LoadedModule.{LoadedModule}
use Rattle.wind_core.specs.State.{KernState}
use Rattle.text_show.specs.Printf.{Source, printf_of}
use Rattle.text_show.specs.Tasks.{task_table_of}
use Rattle.text_show.specs.Dump.{dump_of}
use Rattle.text_show.specs.Symbols.{symbol_rows_of}
use Rattle.text_show.specs.Modules.{module_table_of}
use Rattle.call_rows.specs.KernelWorldReply.{Reply}
use Rattle.call_rows.specs.KernelWorldReply.TheVariants.{Answer, Refusal}

-- the bytes that a call writes, and how its caller is answered
pub record ShowRow : Type 0 where
  pub text : List ℕ
  pub reply : Reply

abbrev pub shows : List ℕ → ℕ → ShowRow
shows text value = record { text = text; reply = Answer value }

abbrev pub shows_none : Errno → ShowRow
shows_none e = record { text = []; reply = Refusal e }

-- ---- printf: its first seven values are given, and the others are on the stack
abbrev pub values_of : List ℕ → List ℕ → ℕ → Source
values_of ram first stack = record { first = first; stack = stack; ram = ram }

-- the answer is the number of bytes written
abbrev pub printed : Option (List ℕ) → ShowRow
printed None = shows_none errors.BadAddress
printed (Some text) = shows text (length text)

abbrev pub printf_row : List ℕ → ℕ → List ℕ → ℕ → ShowRow
printf_row ram format first stack = printed (printf_of (values_of ram first stack) format)

-- ---- i: the table of tasks
abbrev pub tasks_row : KernState → ShowRow
tasks_row k = shows (task_table_of k) ok_word

-- ---- lkup: the symbols whose names contain the text at an address
-- that text; address 0 means the empty text, which every name contains
abbrev pub text_wanted : List ℕ → ℕ → Option (List ℕ)
text_wanted ram at = if at == 0 then Some [] else string_at ram at

abbrev pub lookup_by : List Symbol → Option (List ℕ) → ShowRow
lookup_by ss None = shows_none errors.BadAddress
lookup_by ss (Some text) = shows (symbol_rows_of ss text) ok_word

abbrev pub lookup_row : List Symbol → List ℕ → ℕ → ShowRow
lookup_row ss ram at = lookup_by ss (text_wanted ram at)

-- ---- moduleShow: the table of modules
abbrev pub modules_row : List (ℕ × LoadedModule) → ShowRow
modules_row ms = shows (module_table_of ms) ok_word

-- ---- d: units of a width in bytes; width 0 means 2, and 0 units mean as many as make 128 bytes
abbrev pub width_of : ℕ → ℕ
width_of width = if width == 0 then 2 else width

abbrev pub units_of : ℕ → ℕ → ℕ
units_of units width = if units == 0 then 128 / width else units

abbrev pub is_width : ℕ → Bool
is_width width = width == 1 || (width == 2 || width == 4)

-- the most bytes that a dump may show
abbrev pub most_dumped : ℕ
most_dumped = 65536

abbrev pub dump_in : List ℕ → ℕ → ℕ → ℕ → ShowRow
dump_in ram at units width =
    if nat_lt most_dumped (units * width) then shows_none errors.BadSize
    else if has ram at (units * width) then shows (dump_of ram at units width) ok_word
    else shows_none errors.BadAddress

abbrev pub dump_by : List ℕ → ℕ → ℕ → ℕ → ShowRow
dump_by ram at units width = if is_width width then dump_in ram at (units_of units width) width else shows_none errors.BadSize

abbrev pub dump_row : List ℕ → ℕ → ℕ → ℕ → ShowRow
dump_row ram at units width = dump_by ram at units (width_of width)
