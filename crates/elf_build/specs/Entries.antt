-- The entries of a built file's tables, and their bytes.
use Rattle.std.specs.Prelude.{ℕ, ◌+◌, ◌*◌, List, [], ◌∷◌, ◌++◌}
use Rattle.std.specs.List.{flat_map}
use Rattle.byteorder.specs.Endian.{big_bytes}
use Rattle.elf_read.specs.declared.module.Body.{Body}
use Rattle.elf_read.specs.declared.module.Body.TheVariants.{Bytes, Size}
use Rattle.elf_read.specs.declared.module.SymPlace.{SymPlace}
use Rattle.elf_read.specs.declared.module.SymPlace.TheVariants.{Undefined, Absolute, Common, Section, Elsewhere}
use Rattle.elf_read.specs.declared.module.Sect.{Sect}
use Rattle.elf_read.specs.declared.module.Sym.{Sym}
use Rattle.elf_read.specs.declared.module.Rel.{Rel}
use Rattle.elf_read.specs.declared.entries.SectionHeader.{SectionHeader}
use Rattle.elf_read.specs.declared.entries.SymbolEntry.{SymbolEntry}
use Rattle.elf_read.specs.declared.entries.RelaEntry.{RelaEntry}
use Rattle.elf_read.specs.Standard.{sht_progbits, sht_nobits, shn_undef, shn_abs, shn_common}
use Rattle.elf_read.specs.Modules.{size_of}

-- ---- the bytes of entries
-- the words of a section header, in order; sh_addr is 0
abbrev pub words_of : SectionHeader → List ℕ
words_of h = h.name ∷ h.kind ∷ h.flags ∷ 0 ∷ h.offset ∷ h.size ∷ h.link ∷ h.info ∷ h.align ∷ h.entry_size ∷ []

-- the bytes of a section header (Elf32_Shdr)
unfoldable pub header_bytes : SectionHeader → List ℕ
header_bytes h = flat_map (big_bytes 4) (words_of h)

-- the bytes of a symbol table entry (Elf32_Sym); st_other is 0
unfoldable pub symbol_bytes : SymbolEntry → List ℕ
symbol_bytes e =
    big_bytes 4 e.name ++ (big_bytes 4 e.value ++ (big_bytes 4 e.size ++ (e.info ∷ 0 ∷ big_bytes 2 e.section)))

-- the bytes of a relocation entry (Elf32_Rela)
unfoldable pub relocation_bytes : RelaEntry → List ℕ
relocation_bytes r = big_bytes 4 r.offset ++ (big_bytes 4 r.info ++ big_bytes 4 r.addend)

-- a name and its terminating zero
abbrev pub ended : List ℕ → List ℕ
ended name = name ++ 0 ∷ []

-- ---- sections
-- the content of a section in the file
abbrev pub content_of : Body → List ℕ
content_of (Bytes bs) = bs
content_of (Size n) = []

-- the type of a section with this content
abbrev pub kind_of : Body → ℕ
kind_of (Bytes bs) = sht_progbits
kind_of (Size n) = sht_nobits

-- the header of a section, whose name and content begin at these places
unfoldable pub sect_header : ℕ → ℕ → Sect → SectionHeader
sect_header name at s = record {
  name = name;
  kind = kind_of s.body;
  flags = s.flags;
  offset = at;
  size = size_of s.body;
  link = 0;
  info = 0;
  align = s.align;
  entry_size = 0;
}

-- ---- symbols
-- the section number for a place; the loaded sections have the numbers from 1 on
abbrev pub number_of : SymPlace → ℕ
number_of Undefined = shn_undef
number_of Absolute = shn_abs
number_of Common = shn_common
number_of (Section i) = i + 1
number_of Elsewhere = shn_undef

-- the entry of a symbol, whose name begins at this place
unfoldable pub sym_entry : ℕ → Sym → SymbolEntry
sym_entry name s = record {
  name = name;
  value = s.value;
  size = s.size;
  info = 16 * s.binding + s.kind;
  section = number_of s.place;
}

-- symbol table entry number 0
abbrev pub no_symbol : SymbolEntry
no_symbol = record { name = 0; value = 0; size = 0; info = 0; section = shn_undef }

-- ---- relocations
-- the entry of a relocation
unfoldable pub rel_entry : Rel → RelaEntry
rel_entry r = record { offset = r.offset; info = 256 * r.symbol + r.kind; addend = r.addend }
