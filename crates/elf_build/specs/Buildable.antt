-- The modules that have a file.
use Rattle.std.specs.Prelude.{◌≢◌, ℕ, ◌<◌, ◌≤◌, ◌^◌, List, [], ◌∷◌, length, All}
use Rattle.wind_base.specs.Limits.{most_section_headers}
use Rattle.elf_read.specs.declared.module.SymPlace.TheVariants.{Elsewhere}
use Rattle.elf_read.specs.declared.module.Sect.{Sect}
use Rattle.elf_read.specs.declared.module.Sym.{Sym}
use Rattle.elf_read.specs.declared.module.Rel.{Rel}
use Rattle.elf_read.specs.declared.module.Module.{Module}
use Rattle.elf_read.specs.Modules.{IsModule}
use Rattle.elf_build.specs.File.{header_total, file_of}

-- the symbol isn't in a section that isn't loaded
abbrev pub IsHere : Sym → Type 0
IsHere s = s.place ≢ Elsewhere

-- relocations are in order of their sections, from section number i on
abbrev pub Rises : ℕ → List Rel → Type 0
Rises i [] = Unit {0}
Rises i (r ∷ rs) = (i ≤ r.section) × Rises r.section rs

-- a section's numbers fit their fields; this holds for each value of the type
abbrev pub SectFits : Sect → Type 0
SectFits s = s.flags < 2 ^ 32

-- a symbol's numbers fit their fields; this holds for each value of the type
abbrev pub SymFits : Sym → Type 0
SymFits s = (s.value < 2 ^ 32) × (s.size < 2 ^ 32)

-- a relocation's numbers fit their fields; this holds for each value of the type
abbrev pub RelFits : Rel → Type 0
RelFits r = (r.kind < 2 ^ 8) × (r.addend < 2 ^ 32)

-- a module of the kind that files have, with all symbols here, its relocations in order, and a file that isn't too long
pub record Buildable (m : Module) : Type 0 where
  pub sound : IsModule m
  pub here : All IsHere m.symbols
  pub rising : Rises 0 m.relocs
  pub few_headers : header_total m ≤ most_section_headers
  pub short : length (file_of m) < 2 ^ 32
  pub sections_fit : All SectFits m.sections
  pub symbols_fit : All SymFits m.symbols
  pub relocs_fit : All RelFits m.relocs
