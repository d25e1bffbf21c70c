-- The module of a file that no rule refuses.
use Rattle.std.specs.Prelude.{◌≡◌, ℕ, ◌-◌, if◌then◌else◌, ◌==◌, List, [], ◌∷◌, drop, Ok, ◌⊎◌}
use Rattle.elf_read.specs.declared.error.ElfErr.{ElfErr}
use Rattle.elf_read.specs.declared.error.ElfErr.TheVariants as errors
use Rattle.elf_read.specs.declared.module.Body.{Body}
use Rattle.elf_read.specs.declared.module.Body.TheVariants.{Bytes, Size}
use Rattle.elf_read.specs.declared.module.SymPlace.{SymPlace}
use Rattle.elf_read.specs.declared.module.SymPlace.TheVariants.{Undefined, Absolute, Common, Section, Elsewhere}
use Rattle.elf_read.specs.declared.module.Sect.{Sect}
use Rattle.elf_read.specs.declared.module.Sym.{Sym}
use Rattle.elf_read.specs.declared.module.Rel.{Rel}
use Rattle.elf_read.specs.declared.module.Module.{Module}
use Rattle.elf_read.specs.declared.entries.SectionHeader.{SectionHeader}
use Rattle.elf_read.specs.Standard.{sht_nobits, shn_undef, shn_abs, shn_common, st_bind, st_type, r_sym, r_type}
use Rattle.elf_read.specs.Places.{text_of}
use Rattle.elf_read.specs.Numbered.{gathered}
use Rattle.elf_read.specs.Rules.{checked, Refused}
use Rattle.elf_read.specs.Tables.{header_count, header, content, is_loaded, loaded_before, section_names, symbol_count, symbol, symbol_names, rela_count, relocation}

-- the name at index k of a string table
abbrev pub name_at : List ℕ → ℕ → List ℕ
name_at strings k = text_of (drop k strings)

-- ---- sections
-- the content of section number i, which has this header, when it is loaded
abbrev pub body_of : List ℕ → ℕ → SectionHeader → Body
body_of bytes i h = if h.kind == sht_nobits then Size h.size else Bytes (content bytes i)

-- the section with header number i; alignment 0 means 1
unfoldable pub sect_of : List ℕ → ℕ → Sect
sect_of bytes i = record {
  name = name_at (section_names bytes) (header bytes i).name;
  flags = (header bytes i).flags;
  align = if (header bytes i).align == 0 then 1 else (header bytes i).align;
  body = body_of bytes i (header bytes i);
}

-- that section, if it is loaded
abbrev pub sects_at : List ℕ → ℕ → List Sect
sects_at bytes i = if is_loaded bytes i then sect_of bytes i ∷ [] else []

-- ---- symbols
-- the place of a symbol whose section is number n
unfoldable pub place_of : List ℕ → ℕ → SymPlace
place_of bytes n =
    if n == shn_undef then Undefined
    else if n == shn_abs then Absolute
    else if n == shn_common then Common
    else if is_loaded bytes n then Section (loaded_before bytes n)
    else Elsewhere

-- the symbol of entry number k
unfoldable pub sym_of : List ℕ → ℕ → Sym
sym_of bytes k = record {
  name = name_at (symbol_names bytes) (symbol bytes k).name;
  binding = st_bind (symbol bytes k).info;
  kind = st_type (symbol bytes k).info;
  value = (symbol bytes k).value;
  size = (symbol bytes k).size;
  place = place_of bytes (symbol bytes k).section;
}

-- that symbol, in a list
abbrev pub syms_at : List ℕ → ℕ → List Sym
syms_at bytes k = sym_of bytes k ∷ []

-- ---- relocations
-- relocation number k of section number i
unfoldable pub rel_of : List ℕ → ℕ → ℕ → Rel
rel_of bytes i k = record {
  section = loaded_before bytes (header bytes i).info;
  offset = (relocation bytes i k).offset;
  kind = r_type (relocation bytes i k).info;
  symbol = r_sym (relocation bytes i k).info;
  addend = (relocation bytes i k).addend;
}

-- the relocations of section number i, if they are for a loaded section
unfoldable pub rels_at : List ℕ → ℕ → List Rel
rels_at bytes i = gathered 0 (rela_count bytes i) (λ k. rel_of bytes i k ∷ [])

-- ---- the module
-- the loaded sections, the symbols after number 0, and the relocations of loaded sections, each in the file's order
unfoldable pub module_at : List ℕ → Module
module_at bytes = record {
  sections = gathered 0 (header_count bytes) (sects_at bytes);
  symbols = gathered 1 (symbol_count bytes - 1) (syms_at bytes);
  relocs = gathered 0 (header_count bytes) (rels_at bytes);
}

-- no rule refuses the file, and m is its module
pub record ModuleOf (bytes : List ℕ) (m : Module) : Type 0 where
  pub passes : checked bytes ≡ Ok tt
  pub holds : m ≡ module_at bytes

-- e is the refusal of the file, or memory ran out
abbrev pub FailsRightly : List ℕ → ElfErr → Type 0
FailsRightly bytes e = (e ≡ errors.NoMemory) ⊎ Refused bytes e
