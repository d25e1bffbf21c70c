-- Symbols, as the shell's `lkup` shows them. The columns are this project's own.
use Rattle.std.specs.Prelude.{ℕ, ◌==◌, ◌||◌, Bool, List, [], ◌∷◌, ◌++◌, codes}
use Rattle.std.specs.Cmp.Lexicographic.{slice_cmp}
use Rattle.std.specs.List.{filter, flat_map, starts_with}
use Rattle.std.specs.Ordering.{is_lt, nat_cmp}
use Rattle.symbol_table.specs.declared.symbol.SymKind.{SymKind}
use Rattle.symbol_table.specs.declared.symbol.SymKind.TheVariants.{TextSym, DataSym, BssSym, AbsSym}
use Rattle.symbol_table.specs.declared.symbol.Symbol.{Symbol}
use Rattle.id_table.specs.Sorting.{sorted}
use Rattle.wind_base.specs.Texts.{hex_places}
use Rattle.text_show.specs.Columns.{left_in, row}

-- the text begins with this part
abbrev pub begins_with : List ℕ → List ℕ → Bool
begins_with part text = starts_with (λ a b. a == b) text part

-- the text contains this part: at its beginning, or after its first byte; each text contains the empty part
abbrev pub has_part : List ℕ → List ℕ → Bool
has_part part [] = begins_with part []
has_part part (b ∷ bytes) = begins_with part (b ∷ bytes) || has_part part bytes

-- the symbol's name contains this part
abbrev pub is_shown : List ℕ → Symbol → Bool
is_shown part s = has_part part s.name

-- the name of s comes before that of t, byte by byte
abbrev pub name_before : Symbol → Symbol → Bool
name_before s t = is_lt (slice_cmp nat_cmp s.name t.name)

-- the word for what a symbol stands for
abbrev pub kind_word : SymKind → List ℕ
kind_word TextSym = codes "text"
kind_word DataSym = codes "data"
kind_word BssSym = codes "bss"
kind_word AbsSym = codes "abs"

-- the row of a symbol: its name, its value as `0x` and 8 hexadecimal digits, the word of its kind
unfoldable pub symbol_row : Symbol → List ℕ
symbol_row s = row (left_in 25 s.name ∷ (codes "0x" ++ hex_places 8 s.value) ∷ kind_word s.kind ∷ [])

-- the rows of the symbols whose names contain the part, sorted by name, equal names in order of adding
unfoldable pub symbol_rows_of : List Symbol → List ℕ → List ℕ
symbol_rows_of symbols part = flat_map symbol_row (sorted name_before (filter (is_shown part) symbols))
