-- Numbers, pieces and entries at offsets of a file. Numbers after the end of the file are 0, and pieces are empty.
use Rattle.std.specs.Prelude.{ℕ, ◌+◌, nat_le, if◌then◌else◌, ◌==◌, List, [], ◌∷◌, length, take, drop, slice_index}
use Rattle.byteorder.specs.Endian.{big_number}
use Rattle.elf_read.specs.declared.entries.SectionHeader.{SectionHeader}
use Rattle.elf_read.specs.declared.entries.SymbolEntry.{SymbolEntry}
use Rattle.elf_read.specs.declared.entries.RelaEntry.{RelaEntry}

-- the number of two bytes at an offset, high byte first
unfoldable pub half : List ℕ → ℕ → ℕ
half bytes at = if nat_le (at + 2) (length bytes) then big_number 2 (drop at bytes) else 0

-- the number of four bytes at an offset, high byte first
unfoldable pub word : List ℕ → ℕ → ℕ
word bytes at = if nat_le (at + 4) (length bytes) then big_number 4 (drop at bytes) else 0

-- the given number of bytes at an offset
abbrev pub part : List ℕ → ℕ → ℕ → List ℕ
part bytes at size = take size (drop at bytes)

-- the bytes before the first zero
abbrev pub text_of : List ℕ → List ℕ
text_of [] = []
text_of (b ∷ bs) = if b == 0 then [] else b ∷ text_of bs

-- the section header at an offset: Elf32_Shdr, without sh_addr
unfoldable pub header_at : List ℕ → ℕ → SectionHeader
header_at bytes at = record {
  name = word bytes at;
  kind = word bytes (at + 4);
  flags = word bytes (at + 8);
  offset = word bytes (at + 16);
  size = word bytes (at + 20);
  link = word bytes (at + 24);
  info = word bytes (at + 28);
  align = word bytes (at + 32);
  entry_size = word bytes (at + 36);
}

-- the symbol table entry at an offset: Elf32_Sym, without st_other
unfoldable pub symbol_at : List ℕ → ℕ → SymbolEntry
symbol_at bytes at = record {
  name = word bytes at;
  value = word bytes (at + 4);
  size = word bytes (at + 8);
  info = slice_index bytes (at + 12);
  section = half bytes (at + 14);
}

-- the relocation entry at an offset: Elf32_Rela
unfoldable pub rela_at : List ℕ → ℕ → RelaEntry
rela_at bytes at = record {
  offset = word bytes at;
  info = word bytes (at + 4);
  addend = word bytes (at + 8);
}
