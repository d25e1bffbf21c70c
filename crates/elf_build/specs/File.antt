-- The file of a module: ELF header, contents, symbols, relocations, names of symbols, names of sections, section headers.
-- The section headers are number 0, those of the sections, of the symbol table, of both tables of names, and of the tables of relocations.
use Rattle.std.specs.Prelude.{ℕ, suc, ◌+◌, ◌*◌, ◌==◌, nat_le, if◌then◌else◌, List, [], ◌∷◌, ◌++◌, length, take}
use Rattle.std.specs.List.{flat_map}
use Rattle.byteorder.specs.Endian.{big_bytes}
use Rattle.wind_base.specs.Limits.{longest_name}
use Rattle.elf_read.specs.declared.module.Sect.{Sect}
use Rattle.elf_read.specs.declared.module.Sym.{Sym}
use Rattle.elf_read.specs.declared.module.Rel.{Rel}
use Rattle.elf_read.specs.declared.module.Module.{Module}
use Rattle.elf_read.specs.declared.entries.SectionHeader.{SectionHeader}
use Rattle.elf_read.specs.Standard.{ehdr_bytes, sym_bytes, rela_bytes, sht_null, sht_symtab, sht_strtab, sht_rela, shf_info_link}
use Rattle.elf_build.specs.Entries.{header_bytes, symbol_bytes, relocation_bytes, ended, content_of, sect_header, sym_entry, no_symbol, rel_entry}

-- ---- names
-- an empty name, ".symtab" at 1, ".strtab" at 9 and ".shstrtab" at 17
unfoldable pub fixed_names : List ℕ
fixed_names =
    0 ∷ 46 ∷ 115 ∷ 121 ∷ 109 ∷ 116 ∷ 97 ∷ 98 ∷ 0
    ∷ 46 ∷ 115 ∷ 116 ∷ 114 ∷ 116 ∷ 97 ∷ 98 ∷ 0
    ∷ 46 ∷ 115 ∷ 104 ∷ 115 ∷ 116 ∷ 114 ∷ 116 ∷ 97 ∷ 98 ∷ 0 ∷ []

-- the place of ".symtab" in the table of section names
abbrev pub symtab_name : ℕ
symtab_name = 1

-- the place of ".strtab" there
abbrev pub strtab_name : ℕ
strtab_name = 9

-- the place of ".shstrtab" there
abbrev pub shstrtab_name : ℕ
shstrtab_name = 17

-- the place of the first name after these
abbrev pub first_name : ℕ
first_name = 27

-- ".rela"
abbrev pub rela : List ℕ
rela = 46 ∷ 114 ∷ 101 ∷ 108 ∷ 97 ∷ []

-- the bytes before a section's name in the table: ".rela", or nothing if the name would have more than 255 bytes then
unfoldable pub prefix_of : Sect → List ℕ
prefix_of s = if nat_le (length rela + length s.name) longest_name then rela else []

-- a section's entry: the name of its table of relocations, which ends with the section's own name, and a zero
abbrev pub sect_name : Sect → List ℕ
sect_name s = prefix_of s ++ ended s.name

-- a symbol's name with its terminating zero
abbrev pub sym_name : Sym → List ℕ
sym_name s = ended s.name

-- the table of section names
unfoldable pub names_of : List Sect → List ℕ
names_of ss = fixed_names ++ flat_map sect_name ss

-- the place of the name of the table of relocations for section number i: after the names of the sections before it
abbrev pub table_name : List Sect → ℕ → ℕ
table_name ss i = length (names_of (take i ss))

-- the table of symbol names
unfoldable pub strings_of : List Sym → List ℕ
strings_of ss = 0 ∷ flat_map sym_name ss

-- ---- contents and symbols
-- the content of a section in the file
abbrev pub sect_content : Sect → List ℕ
sect_content s = content_of s.body

-- the contents of all sections
unfoldable pub contents_of : List Sect → List ℕ
contents_of ss = flat_map sect_content ss

-- the entries of symbols; the first one's name begins at this place, the others' after it
abbrev pub symbols_from : ℕ → List Sym → List ℕ
symbols_from name [] = []
symbols_from name (s ∷ ss) = symbol_bytes (sym_entry name s) ++ symbols_from (name + length s.name + 1) ss

-- the symbol table: entry number 0, and the symbols
unfoldable pub symbols_of : List Sym → List ℕ
symbols_of ss = symbol_bytes no_symbol ++ symbols_from 1 ss

-- the number of the last local symbol, plus 1, for symbols from number k on
abbrev pub locals_from : ℕ → ℕ → List Sym → ℕ
locals_from last k [] = last
locals_from last k (s ∷ ss) = locals_from (if s.binding == 0 then k + 1 else last) (k + 1) ss

-- the number of the last local symbol, plus 1
abbrev pub locals_end : List Sym → ℕ
locals_end ss = locals_from 1 1 ss

-- ---- tables of relocations
-- a table of relocations: consecutive relocations of one section
pub record RelocTable : Type 0 where
  pub section : ℕ
  pub relocs : List Rel

-- a relocation put before tables: in the first table, if that is for its section, otherwise in a table of its own
abbrev pub joined : Rel → List RelocTable → List RelocTable
joined r [] = record { section = r.section; relocs = r ∷ [] } ∷ []
joined r (t ∷ ts) =
    if r.section == t.section then record { section = t.section; relocs = r ∷ t.relocs } ∷ ts
    else record { section = r.section; relocs = r ∷ [] } ∷ t ∷ ts

-- the relocations in as few tables as their order allows: one for each section with relocations, if they are in order of their sections
abbrev pub tables_of : List Rel → List RelocTable
tables_of [] = []
tables_of (r ∷ rs) = joined r (tables_of rs)

-- the number of relocations at the beginning of the list that are for this section
abbrev pub leading : ℕ → List Rel → ℕ
leading section [] = 0
leading section (r ∷ rs) = if r.section == section then suc (leading section rs) else 0

-- the bytes of a relocation's entry
abbrev pub rel_bytes : Rel → List ℕ
rel_bytes r = relocation_bytes (rel_entry r)

-- the entries of all relocations
unfoldable pub relocs_of : List Rel → List ℕ
relocs_of rs = flat_map rel_bytes rs

-- ---- section headers
-- the headers of sections; the first one's names and content begin at these places, the others' after them
abbrev pub sect_headers : ℕ → ℕ → List Sect → List ℕ
sect_headers name at [] = []
sect_headers name at (s ∷ ss) =
    header_bytes (sect_header (name + length (prefix_of s)) at s)
    ++ sect_headers (name + length (sect_name s)) (at + length (sect_content s)) ss

-- the header of a table of relocations, from its name's place, its offset, its section, and the number of relocations
unfoldable pub table_header : ℕ → ℕ → ℕ → ℕ → ℕ → SectionHeader
table_header name symtab at section count = record {
  name = name;
  kind = sht_rela;
  flags = shf_info_link;
  offset = at;
  size = rela_bytes * count;
  link = symtab;
  info = section + 1;
  align = 4;
  entry_size = rela_bytes;
}

-- the headers of tables for these sections; the first table begins at this offset, the others after it
abbrev pub table_headers : List Sect → ℕ → ℕ → List RelocTable → List ℕ
table_headers ss symtab at [] = []
table_headers ss symtab at (t ∷ ts) =
    header_bytes (table_header (table_name ss t.section) symtab at t.section (length t.relocs))
    ++ table_headers ss symtab (at + rela_bytes * length t.relocs) ts

-- section header number 0
unfoldable pub null_header : SectionHeader
null_header = record {
  name = 0;
  kind = sht_null;
  flags = 0;
  offset = 0;
  size = 0;
  link = 0;
  info = 0;
  align = 0;
  entry_size = 0;
}

-- the header of a table of names
unfoldable pub strings_header : ℕ → ℕ → ℕ → SectionHeader
strings_header name at size = record {
  name = name;
  kind = sht_strtab;
  flags = 0;
  offset = at;
  size = size;
  link = 0;
  info = 0;
  align = 1;
  entry_size = 0;
}

-- the header of the symbol table
unfoldable pub symtab_header : ℕ → ℕ → ℕ → ℕ → SectionHeader
symtab_header at size link locals = record {
  name = symtab_name;
  kind = sht_symtab;
  flags = 0;
  offset = at;
  size = size;
  link = link;
  info = locals;
  align = 4;
  entry_size = sym_bytes;
}

-- ---- places
-- the number of a module's sections
abbrev pub count_of : Module → ℕ
count_of m = length m.sections

-- the number of section headers in its file
abbrev pub header_total : Module → ℕ
header_total m = count_of m + length (tables_of m.relocs) + 4

-- the offset of the symbol table
unfoldable pub symbols_at : Module → ℕ
symbols_at m = ehdr_bytes + length (contents_of m.sections)

-- the offset of the relocations
unfoldable pub relocs_at : Module → ℕ
relocs_at m = symbols_at m + length (symbols_of m.symbols)

-- the offset of the names of symbols
unfoldable pub strings_at : Module → ℕ
strings_at m = relocs_at m + length (relocs_of m.relocs)

-- the offset of the names of sections
unfoldable pub names_at : Module → ℕ
names_at m = strings_at m + length (strings_of m.symbols)

-- the offset of the section headers
unfoldable pub headers_at : Module → ℕ
headers_at m = names_at m + length (names_of m.sections)

-- ---- the file
-- the section headers of the file
unfoldable pub headers_of : Module → List ℕ
headers_of m =
    header_bytes null_header
    ++ (sect_headers first_name ehdr_bytes m.sections
    ++ (header_bytes
    (symtab_header (symbols_at m) (length (symbols_of m.symbols)) (count_of m + 2) (locals_end m.symbols))
    ++ (header_bytes (strings_header strtab_name (strings_at m) (length (strings_of m.symbols)))
    ++ (header_bytes (strings_header shstrtab_name (names_at m) (length (names_of m.sections)))
    ++ table_headers m.sections (count_of m + 1) (relocs_at m) (tables_of m.relocs)))))

-- the ELF header, from the offset and number of the section headers, and the number of the one for the section names
unfoldable pub elf_header : ℕ → ℕ → ℕ → List ℕ
elf_header headers count names =
    0x7f ∷ 0x45 ∷ 0x4c ∷ 0x46 ∷ 1 ∷ 2 ∷ 1 ∷ 0 ∷ 0 ∷ 0 ∷ 0 ∷ 0 ∷ 0 ∷ 0 ∷ 0 ∷ 0
    ∷ 0 ∷ 1 ∷ 0 ∷ 20 ∷ 0 ∷ 0 ∷ 0 ∷ 1 ∷ 0 ∷ 0 ∷ 0 ∷ 0 ∷ 0 ∷ 0 ∷ 0 ∷ 0
    ∷ (big_bytes 4 headers
    ++ 0 ∷ 0 ∷ 0 ∷ 0 ∷ 0 ∷ 52 ∷ 0 ∷ 0 ∷ 0 ∷ 0 ∷ 0 ∷ 40
    ∷ (big_bytes 2 count ++ big_bytes 2 names))

-- the whole file
unfoldable pub file_of : Module → List ℕ
file_of m =
    elf_header (headers_at m) (header_total m) (count_of m + 3)
    ++ (contents_of m.sections
    ++ (symbols_of m.symbols
    ++ (relocs_of m.relocs
    ++ (strings_of m.symbols
    ++ (names_of m.sections
    ++ headers_of m)))))
