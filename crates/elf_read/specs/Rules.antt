-- The rules of an object file, in order. Offsets are those of the field, header or entry that fails.
use Rattle.std.specs.Prelude.{◌≡◌, ℕ, ◌+◌, ◌-◌, ◌/◌, ◌%◌, Bool, ◌&&◌, ◌||◌, not, nat_lt, nat_le, ◌==◌, bit_and, List, [], ◌∷◌, length, slice_index, Ok, Err}
use Rattle.wind_base.specs.Limits.{most_section_headers, most_symbol_entries, most_relocations, most_section_bytes}
use Rattle.elf_read.specs.declared.error.ElfErr.{ElfErr}
use Rattle.elf_read.specs.declared.error.ElfErr.TheVariants.{Short, NotElf, NotPpc, NotRel, BadSection, BadSymbol, BadReloc, TooMany}
use Rattle.elf_read.specs.declared.section_rules.SectionRule.{SectionRule}
use Rattle.elf_read.specs.declared.section_rules.SectionRule.TheVariants.{Content, Name, Load}
use Rattle.elf_read.specs.declared.entries.SectionHeader.{SectionHeader}
use Rattle.elf_read.specs.declared.entries.SymbolEntry.{SymbolEntry}
use Rattle.elf_read.specs.declared.entries.RelaEntry.{RelaEntry}
use Rattle.elf_read.specs.Standard.{ehdr_bytes, ident, e_type, e_machine, e_shoff, e_shentsize, e_shnum, e_shstrndx, et_rel, em_ppc, shdr_bytes, sh_offset, sht_null, sht_progbits, sht_strtab, sht_rela, sht_note, sht_nobits, sht_rel, shf_tls_or_compressed, sym_bytes, shn_undef, shn_abs, shn_common, st_bind, st_type, stb_weak, stt_common, rela_bytes, r_sym, r_type}
use Rattle.elf_read.specs.Places.{half}
use Rattle.elf_read.specs.Rule.{Rule, ◌and_then◌, unless, when, first_of, each}
use Rattle.elf_read.specs.Numbered.{total}
use Rattle.elf_read.specs.Tables.{header_count, header_offset, header, is_loaded, is_elsewhere, has_name, has_number, section_names, is_symtab, symtab, has_symtab, symbol_count, symbol_offset, symbol, symbol_names, rela_count, rela_offset, relocation, width}

-- ---- the file's header
-- the file has a header
abbrev pub length_rule : List ℕ → Rule
length_rule bytes = unless (nat_le ehdr_bytes (length bytes)) (Short (length bytes))

-- these bytes are in the file from offset i on
abbrev pub ident_from : ℕ → List ℕ → List ℕ → Rule
ident_from i [] bytes = Ok tt
ident_from i (b ∷ bs) bytes = unless (slice_index bytes i == b) (NotElf i) and_then ident_from (i + 1) bs bytes

-- a 32-bit, big-endian ELF file of the current version
abbrev pub ident_rule : List ℕ → Rule
ident_rule bytes = ident_from 0 ident bytes

-- a file for PowerPC
abbrev pub machine_rule : List ℕ → Rule
machine_rule bytes = unless (half bytes e_machine == em_ppc) (NotPpc e_machine)

-- a relocatable file
abbrev pub type_rule : List ℕ → Rule
type_rule bytes = unless (half bytes e_type == et_rel) (NotRel e_type)

-- there are section headers, not too many; one of them is that of the section names; they are in the file
abbrev pub headers_rule : List ℕ → Rule
headers_rule bytes =
    unless (half bytes e_shentsize == shdr_bytes) (BadSection e_shentsize)
    and_then unless (not (header_count bytes == 0)) (BadSection e_shnum)
    and_then unless (nat_lt (half bytes e_shstrndx) (header_count bytes)) (BadSection e_shstrndx)
    and_then unless (nat_le (header_count bytes) most_section_headers) (TooMany e_shnum)
    and_then unless (nat_le (header_offset bytes (header_count bytes)) (length bytes)) (Short e_shoff)

-- ---- sections
-- a section with this header has content in the file
unfoldable pub has_content : SectionHeader → Bool
has_content h = not (h.kind == sht_null) && not (h.kind == sht_nobits)

-- the content of section number i is in the file
abbrev pub content_rule : List ℕ → ℕ → Rule
content_rule bytes i =
    when (has_content (header bytes i))
    (unless (nat_le ((header bytes i).offset + (header bytes i).size) (length bytes))
    (Short (header_offset bytes i + sh_offset)))

-- the section names are in a string table
abbrev pub strings_rule : List ℕ → Rule
strings_rule bytes =
    unless ((header bytes (half bytes e_shstrndx)).kind == sht_strtab)
    (BadSection (header_offset bytes (half bytes e_shstrndx)))

-- section number i has a valid name there
abbrev pub name_rule : List ℕ → ℕ → Rule
name_rule bytes i = unless (has_name (section_names bytes) (header bytes i).name) (BadSection (header_offset bytes i))

-- the section names are in a string table, and each section has one
abbrev pub names_rule : List ℕ → Rule
names_rule bytes = strings_rule bytes and_then each 0 (header_count bytes) (name_rule bytes)

-- the powers of two up to the greatest alignment
abbrev pub alignments : List ℕ
alignments = 1 ∷ 2 ∷ 4 ∷ 8 ∷ 16 ∷ 32 ∷ 64 ∷ 128 ∷ 256 ∷ 512 ∷ 1024 ∷ 2048 ∷ 4096 ∷ 8192 ∷ 16384 ∷ 32768 ∷ 65536 ∷ []

-- a number is an alignment: a power of two up to 65,536
unfoldable pub is_alignment : ℕ → Bool
is_alignment n = has_number alignments n

-- a section with this header can be loaded; alignment 0 means 1
unfoldable pub is_loadable : SectionHeader → Bool
is_loadable h =
    (h.kind == sht_progbits || (h.kind == sht_note || h.kind == sht_nobits))
    && ((bit_and h.flags shf_tls_or_compressed == 0)
    && ((h.align == 0 || is_alignment h.align) && nat_le h.size most_section_bytes))

-- section number i can be loaded, if it is to be loaded
abbrev pub load_rule : List ℕ → ℕ → Rule
load_rule bytes i = when (is_loaded bytes i) (unless (is_loadable (header bytes i)) (BadSection (header_offset bytes i)))

-- section number i obeys this rule
abbrev pub section_rule : SectionRule → List ℕ → ℕ → Rule
section_rule Content = content_rule
section_rule Name = name_rule
section_rule Load = load_rule

-- ---- symbols
-- section number i is the first symbol table, and valid
unfoldable pub is_right_symtab : List ℕ → ℕ → Bool
is_right_symtab bytes i =
    (i == symtab bytes)
    && (((header bytes i).entry_size == sym_bytes)
    && (((header bytes i).size % sym_bytes == 0)
    && (nat_lt (header bytes i).link (header_count bytes)
    && ((header bytes (header bytes i).link).kind == sht_strtab))))

-- section number i, if it is a symbol table, is valid and hasn't too many entries
abbrev pub symtab_rule : List ℕ → ℕ → Rule
symtab_rule bytes i =
    when (is_symtab bytes i)
    (unless (is_right_symtab bytes i) (BadSection (header_offset bytes i))
    and_then unless (nat_le ((header bytes i).size / sym_bytes) most_symbol_entries) (TooMany (header_offset bytes i)))

-- a symbol's section exists, or the symbol is absolute or common
unfoldable pub has_place : List ℕ → SymbolEntry → Bool
has_place bytes e = nat_lt e.section (header_count bytes) || (e.section == shn_abs || e.section == shn_common)

-- a symbol of a loaded section is in it or at its end; section number 0 is not a section
unfoldable pub lies_inside : List ℕ → SymbolEntry → Bool
lies_inside bytes e =
    e.section == shn_undef
    || (not (is_loaded bytes e.section) || nat_le e.value (header bytes e.section).size)

-- a common symbol, whose value is its alignment, has a valid alignment and size
unfoldable pub is_right_common : SymbolEntry → Bool
is_right_common e = not (e.section == shn_common) || (is_alignment e.value && nat_le e.size most_section_bytes)

-- a symbol is valid: its name, its binding and type, its place, and its value and size
unfoldable pub is_right_symbol : List ℕ → SymbolEntry → Bool
is_right_symbol bytes e =
    has_name (symbol_names bytes) e.name
    && (nat_le (st_bind e.info) stb_weak
    && (nat_le (st_type e.info) stt_common
    && (has_place bytes e && (lies_inside bytes e && is_right_common e))))

-- symbol number k is valid
abbrev pub symbol_rule : List ℕ → ℕ → Rule
symbol_rule bytes k = unless (is_right_symbol bytes (symbol bytes k)) (BadSymbol (symbol_offset bytes k))

-- ---- relocations
-- section number i is a valid table of relocations with addends
unfoldable pub is_right_table : List ℕ → ℕ → Bool
is_right_table bytes i =
    ((header bytes i).kind == sht_rela)
    && (((header bytes i).entry_size == rela_bytes)
    && (((header bytes i).size % rela_bytes == 0)
    && (has_symtab bytes && ((header bytes i).link == symtab bytes))))

-- section number i, if it has relocations, names a section; if that is loaded, i is a valid table, and there aren't too many relocations
-- up to and including this table
abbrev pub table_rule : List ℕ → ℕ → Rule
table_rule bytes i =
    when ((header bytes i).kind == sht_rela || (header bytes i).kind == sht_rel)
    (unless (nat_lt (header bytes i).info (header_count bytes)) (BadSection (header_offset bytes i))
    and_then when (is_loaded bytes (header bytes i).info)
    (unless (is_right_table bytes i) (BadSection (header_offset bytes i))
    and_then unless (nat_le (total (i + 1) (rela_count bytes)) most_relocations) (TooMany (header_offset bytes i))))

-- a relocation is inside its section's bytes, and its symbol exists and isn't in a section that isn't loaded
unfoldable pub is_right_relocation : List ℕ → SectionHeader → RelaEntry → Bool
is_right_relocation bytes target r =
    not (target.kind == sht_nobits)
    && (nat_lt (r_sym r.info) (symbol_count bytes)
    && ((r_sym r.info == 0 || not (is_elsewhere bytes (symbol bytes (r_sym r.info)).section))
    && nat_le (r.offset + width (r_type r.info)) target.size))

-- relocation number k of section number i is valid
abbrev pub relocation_rule : List ℕ → ℕ → ℕ → Rule
relocation_rule bytes i k =
    unless (is_right_relocation bytes (header bytes (header bytes i).info) (relocation bytes i k))
    (BadReloc (rela_offset bytes i k))

-- all relocations of section number i are valid
abbrev pub relocations_rule : List ℕ → ℕ → Rule
relocations_rule bytes i = each 0 (rela_count bytes i) (relocation_rule bytes i)

-- ---- all rules
-- the rules, in order
abbrev pub rules_of : List ℕ → List Rule
rules_of bytes =
    length_rule bytes
    ∷ ident_rule bytes
    ∷ machine_rule bytes
    ∷ type_rule bytes
    ∷ headers_rule bytes
    ∷ each 0 (header_count bytes) (content_rule bytes)
    ∷ names_rule bytes
    ∷ each 0 (header_count bytes) (load_rule bytes)
    ∷ each 0 (header_count bytes) (symtab_rule bytes)
    ∷ each 1 (symbol_count bytes - 1) (symbol_rule bytes)
    ∷ each 0 (header_count bytes) (table_rule bytes)
    ∷ each 0 (header_count bytes) (relocations_rule bytes)
    ∷ []

-- the first rule that fails
unfoldable pub checked : List ℕ → Rule
checked bytes = first_of (rules_of bytes)

-- the file is refused with e
abbrev pub Refused : List ℕ → ElfErr → Type 0
Refused bytes e = checked bytes ≡ Err e
