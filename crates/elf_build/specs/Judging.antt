-- What the test `is_buildable` requires of each part.
use Rattle.std.specs.Prelude.{◌≢◌, ℕ, ◌+◌, ◌<◌, ◌≤◌, List, length, slice_index_or, All}
use Rattle.wind_base.specs.Limits.{most_section_headers, most_symbol_entries, most_relocations}
use Rattle.elf_read.specs.declared.module.SymPlace.{SymPlace}
use Rattle.elf_read.specs.declared.module.SymPlace.TheVariants.{Elsewhere}
use Rattle.elf_read.specs.declared.module.Sect.{Sect}
use Rattle.elf_read.specs.declared.module.Sym.{Sym}
use Rattle.elf_read.specs.declared.module.Rel.{Rel}
use Rattle.elf_read.specs.declared.module.Module.{Module}
use Rattle.elf_read.specs.Tables.{width}
use Rattle.elf_read.specs.Modules.{IsSect, IsPlaced, IsSym, HoldsBytes}
use Rattle.elf_build.specs.Buildable.{IsHere, SectFits, SymFits, RelFits, Rises}
use Rattle.elf_build.specs.File.{header_total}

-- a section that can be loaded, with numbers that fit
abbrev pub IsBuildableSect : Sect → Type 0
IsBuildableSect s = IsSect s × SectFits s

-- a symbol with this value and size can be at this place, and the place isn't a section that isn't loaded
abbrev pub IsBuildablePlace : List Sect → SymPlace → ℕ → ℕ → Type 0
IsBuildablePlace ss place value size = IsPlaced ss place value size × (place ≢ Elsewhere)

-- a symbol that is here, with numbers that fit
abbrev pub IsBuildableSym : List Sect → Sym → Type 0
IsBuildableSym ss s = IsSym ss s × (IsHere s × SymFits s)

-- a relocation inside a section's bytes, with one of the given number of symbols or none; that symbols are here is required elsewhere
pub record IsBuildableRel (ss : List Sect) (symbols : ℕ) (r : Rel) : Type 0 where
  pub section : r.section < length ss
  pub inside : (d : Sect) → HoldsBytes (slice_index_or ss r.section d).body (r.offset + width r.kind)
  pub symbol : r.symbol ≤ symbols
  pub fits : RelFits r

-- a module's counts are within their limits
pub record IsSmall (m : Module) : Type 0 where
  pub headers : header_total m ≤ most_section_headers
  pub symbols : length m.symbols < most_symbol_entries
  pub relocs : length m.relocs ≤ most_relocations

-- all parts of a module can be written
pub record HasBuildableParts (m : Module) : Type 0 where
  pub sections : All IsBuildableSect m.sections
  pub symbols : All (IsBuildableSym m.sections) m.symbols
  pub relocs : All (IsBuildableRel m.sections (length m.symbols)) m.relocs
  pub rising : Rises 0 m.relocs
