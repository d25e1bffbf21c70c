-- The tables of a file: section headers, names, symbols and relocations.
use Rattle.std.specs.Prelude.{ℕ, ◌+◌, ◌*◌, ◌/◌, Bool, ◌&&◌, not, nat_lt, ◌==◌, if◌then◌else◌, bit_and, List, map}
use Rattle.std.specs.List.{list_any, range_with_len}
use Rattle.wind_base.specs.Limits.{longest_name}
use Rattle.elf_read.specs.declared.entries.SectionHeader.{SectionHeader}
use Rattle.elf_read.specs.declared.entries.SymbolEntry.{SymbolEntry}
use Rattle.elf_read.specs.declared.entries.RelaEntry.{RelaEntry}
use Rattle.elf_read.specs.Standard.{e_shoff, e_shnum, e_shstrndx, shdr_bytes, sht_symtab, sht_rela, shf_alloc, shn_undef, sym_bytes, rela_bytes, half_types, word_types}
use Rattle.elf_read.specs.Places.{half, word, part, header_at, symbol_at, rela_at}
use Rattle.elf_read.specs.Numbered.{total, first_from}

-- ---- section headers
-- the number of section headers
abbrev pub header_count : List ℕ → ℕ
header_count bytes = half bytes e_shnum

-- the offset of section header number i
abbrev pub header_offset : List ℕ → ℕ → ℕ
header_offset bytes i = word bytes e_shoff + shdr_bytes * i

-- section header number i
unfoldable pub header : List ℕ → ℕ → SectionHeader
header bytes i = header_at bytes (header_offset bytes i)

-- the content of section number i in the file
unfoldable pub content : List ℕ → ℕ → List ℕ
content bytes i = part bytes (header bytes i).offset (header bytes i).size

-- section number i exists and is loaded
unfoldable pub is_loaded : List ℕ → ℕ → Bool
is_loaded bytes i = nat_lt i (header_count bytes) && not (bit_and (header bytes i).flags shf_alloc == 0)

-- 1 for a loaded section, otherwise 0
abbrev pub one_loaded : List ℕ → ℕ → ℕ
one_loaded bytes i = if is_loaded bytes i then 1 else 0

-- the number of loaded sections before number i
unfoldable pub loaded_before : List ℕ → ℕ → ℕ
loaded_before bytes i = total i (one_loaded bytes)

-- for each section, its number among the loaded ones
abbrev pub section_numbers : List ℕ → List ℕ
section_numbers bytes = map (loaded_before bytes) (range_with_len 0 (header_count bytes))

-- section number i exists, isn't number 0, and isn't loaded
unfoldable pub is_elsewhere : List ℕ → ℕ → Bool
is_elsewhere bytes i = not (i == shn_undef) && (nat_lt i (header_count bytes) && not (is_loaded bytes i))

-- ---- names
abbrev pub is_zero : ℕ → Bool
is_zero b = b == 0

-- a name begins at index k of a string table: a zero ends it inside the table, after at most 255 bytes
unfoldable pub has_name : List ℕ → ℕ → Bool
has_name strings k = list_any is_zero (part strings k (longest_name + 1))

-- the string table of the sections' names
abbrev pub section_names : List ℕ → List ℕ
section_names bytes = content bytes (half bytes e_shstrndx)

-- ---- symbols
-- header number i is that of a symbol table
abbrev pub is_symtab : List ℕ → ℕ → Bool
is_symtab bytes i = (header bytes i).kind == sht_symtab

-- the number of the first symbol table, or the number of headers if there is none
unfoldable pub symtab : List ℕ → ℕ
symtab bytes = first_from 0 (header_count bytes) (is_symtab bytes)

-- the file has a symbol table
abbrev pub has_symtab : List ℕ → Bool
has_symtab bytes = nat_lt (symtab bytes) (header_count bytes)

-- the number of entries in the symbol table, including number 0
unfoldable pub symbol_count : List ℕ → ℕ
symbol_count bytes = if has_symtab bytes then (header bytes (symtab bytes)).size / sym_bytes else 0

-- the offset of entry number k of the symbol table
abbrev pub symbol_offset : List ℕ → ℕ → ℕ
symbol_offset bytes k = (header bytes (symtab bytes)).offset + sym_bytes * k

-- entry number k of the symbol table
unfoldable pub symbol : List ℕ → ℕ → SymbolEntry
symbol bytes k = symbol_at bytes (symbol_offset bytes k)

-- the string table of the symbols' names
abbrev pub symbol_names : List ℕ → List ℕ
symbol_names bytes = content bytes (header bytes (symtab bytes)).link

-- ---- relocations
-- section number i has the relocations of a loaded section
unfoldable pub is_applied : List ℕ → ℕ → Bool
is_applied bytes i = (header bytes i).kind == sht_rela && is_loaded bytes (header bytes i).info

-- the number of relocations in section number i, if they are for a loaded section
unfoldable pub rela_count : List ℕ → ℕ → ℕ
rela_count bytes i = if is_applied bytes i then (header bytes i).size / rela_bytes else 0

-- the offset of relocation number k of section number i
abbrev pub rela_offset : List ℕ → ℕ → ℕ → ℕ
rela_offset bytes i k = (header bytes i).offset + rela_bytes * k

-- relocation number k of section number i
unfoldable pub relocation : List ℕ → ℕ → ℕ → RelaEntry
relocation bytes i k = rela_at bytes (rela_offset bytes i k)

-- a list has this number
abbrev pub has_number : List ℕ → ℕ → Bool
has_number ns n = list_any (λ m. m == n) ns

-- the number of bytes that a relocation of this type changes
unfoldable pub width : ℕ → ℕ
width kind = if has_number half_types kind then 2 else if has_number word_types kind then 4 else 0
