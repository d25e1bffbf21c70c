-- What the code that writes a file requires of a module, and where it puts the file's parts.
use Rattle.std.specs.Prelude.{◌≡◌, ℕ, ◌+◌, ◌*◌, ◌<◌, ◌≤◌, ◌^◌, List, ◌∷◌, ◌++◌, length, take, drop, slice_index_or, All}
use Rattle.wind_base.specs.Limits.{most_section_headers, most_symbol_entries, most_relocations}
use Rattle.elf_read.specs.declared.module.SymPlace.{SymPlace}
use Rattle.elf_read.specs.declared.module.SymPlace.TheVariants.{Section}
use Rattle.elf_read.specs.declared.module.Sect.{Sect}
use Rattle.elf_read.specs.declared.module.Sym.{Sym}
use Rattle.elf_read.specs.declared.module.Rel.{Rel}
use Rattle.elf_read.specs.declared.module.Module.{Module}
use Rattle.elf_read.specs.Standard.{stb_weak, stt_common, rela_bytes}
use Rattle.elf_read.specs.Modules.{size_of}
use Rattle.elf_build.specs.declared.building.Layout.{Layout}
use Rattle.elf_build.specs.File.{tables_of, header_total, contents_of, symbols_of, relocs_of, strings_of, names_of, symbols_at, relocs_at, strings_at, names_at, headers_at}

-- a section's size fits its header
abbrev pub IsShort : Sect → Type 0
IsShort s = size_of s.body < 2 ^ 32

-- a place has a section number that fits
abbrev pub HasNumber : SymPlace → Type 0
HasNumber (Section i) = i < most_section_headers
HasNumber _ = Unit {0}

-- a symbol fits its entry
pub record HasEntry (s : Sym) : Type 0 where
  pub place : HasNumber s.place
  pub binding : s.binding ≤ stb_weak
  pub kind : s.kind ≤ stt_common

-- a relocation's symbol fits its entry
pub record HasSymbol (r : Rel) : Type 0 where
  pub symbol : r.symbol < most_symbol_entries

-- a relocation is for one of this many sections
pub record HasSection (sections : ℕ) (r : Rel) : Type 0 where
  pub section : r.section < sections

-- the first n relocations are the first table
pub record LeadsTable (n : ℕ) (rs : List Rel) : Type 0 where
  pub some : 0 < n
  pub within : n ≤ length rs
  pub table : (d : Rel) →
      tables_of rs ≡ record { section = (slice_index_or rs 0 d).section; relocs = take n rs } ∷ tables_of (drop n rs)

-- what the code that writes a file requires of a module
pub record Writable (m : Module) : Type 0 where
  pub few_headers : header_total m ≤ most_section_headers
  pub few_symbols : length m.symbols < most_symbol_entries
  pub few_relocs : length m.relocs ≤ most_relocations
  pub sections : All IsShort m.sections
  pub symbols : All HasEntry m.symbols
  pub relocs : All HasSymbol m.relocs
  pub targets : All (HasSection (length m.sections)) m.relocs
  pub header_fits : 52 + length (contents_of m.sections) < 2 ^ 32
  pub ends : headers_at m < 2 ^ 32
  pub tables : relocs_at m + rela_bytes * length m.relocs ≤ headers_at m

-- the offsets of the file's parts
unfoldable pub layout_of : Module → Layout
layout_of m = record {
  symbols = symbols_at m;
  relocs = relocs_at m;
  strings = strings_at m;
  names = names_at m;
  headers = headers_at m;
}

-- the parts between the ELF header and the section headers
unfoldable pub parts_of : Module → List ℕ
parts_of m =
    (((contents_of m.sections ++ symbols_of m.symbols) ++ relocs_of m.relocs) ++ strings_of m.symbols)
    ++ names_of m.sections
