-- What is known of the module of a file.
use Rattle.std.specs.Prelude.{◌≡◌, ◌≢◌, ℕ, ◌+◌, ◌-◌, ◌<◌, ◌≤◌, true, false, ◌==◌, bit_and, List, length, slice_index_or, All}
use Rattle.wind_base.specs.Limits.{longest_name, most_section_headers, most_symbol_entries, most_relocations, most_section_bytes}
use Rattle.elf_read.specs.declared.module.Body.{Body}
use Rattle.elf_read.specs.declared.module.Body.TheVariants.{Bytes, Size}
use Rattle.elf_read.specs.declared.module.SymPlace.{SymPlace}
use Rattle.elf_read.specs.declared.module.SymPlace.TheVariants.{Undefined, Absolute, Common, Section, Elsewhere}
use Rattle.elf_read.specs.declared.module.Sect.{Sect}
use Rattle.elf_read.specs.declared.module.Sym.{Sym}
use Rattle.elf_read.specs.declared.module.Rel.{Rel}
use Rattle.elf_read.specs.declared.module.Module.{Module}
use Rattle.elf_read.specs.Standard.{shf_alloc, shf_tls_or_compressed, stb_weak, stt_common}
use Rattle.elf_read.specs.Tables.{width}
use Rattle.elf_read.specs.Rules.{is_alignment}
use Rattle.elf_read.specs.Contents.{ModuleOf}

-- a name that a string table can hold: at most 255 bytes, none of them zero
pub record IsName (name : List ℕ) : Type 0 where
  pub size : length name ≤ longest_name
  pub no_zero : All (λ b. b ≢ 0) name

-- ---- sections
-- the size in bytes of a section when it is loaded
abbrev pub size_of : Body → ℕ
size_of (Bytes bs) = length bs
size_of (Size n) = n

-- a section that can be loaded
pub record IsSect (s : Sect) : Type 0 where
  pub name : IsName s.name
  pub loaded : (bit_and s.flags shf_alloc == 0) ≡ false
  pub plain : (bit_and s.flags shf_tls_or_compressed == 0) ≡ true
  pub align : is_alignment s.align ≡ true
  pub size : size_of s.body ≤ most_section_bytes

-- ---- symbols
-- a symbol with this value and size can be at this place: in its section or at its end, or common with a valid alignment and size
abbrev pub IsPlaced : List Sect → SymPlace → ℕ → ℕ → Type 0
IsPlaced ss Undefined value size = Unit {0}
IsPlaced ss Absolute value size = Unit {0}
IsPlaced ss Common value size = (is_alignment value ≡ true) × (size ≤ most_section_bytes)
IsPlaced ss (Section i) value size = (i < length ss) × ((d : Sect) → value ≤ size_of (slice_index_or ss i d).body)
IsPlaced ss Elsewhere value size = Unit {0}

-- a symbol of a module with these sections
pub record IsSym (ss : List Sect) (s : Sym) : Type 0 where
  pub name : IsName s.name
  pub binding : s.binding ≤ stb_weak
  pub kind : s.kind ≤ stt_common
  pub place : IsPlaced ss s.place s.value s.size

-- ---- relocations
-- a section has at least this many bytes in the file; it isn't all zeros
abbrev pub HoldsBytes : Body → ℕ → Type 0
HoldsBytes (Bytes bs) n = n ≤ length bs
HoldsBytes (Size k) n = ⊥

-- a relocation of a module with these sections and symbols: it is inside its section's bytes, and its symbol, if it has one, is here
pub record IsRel (ss : List Sect) (ys : List Sym) (r : Rel) : Type 0 where
  pub section : r.section < length ss
  pub inside : (d : Sect) → HoldsBytes (slice_index_or ss r.section d).body (r.offset + width r.kind)
  pub symbol : r.symbol ≤ length ys
  pub here : (d : Sym) → 0 < r.symbol → (slice_index_or ys (r.symbol - 1) d).place ≢ Elsewhere

-- ---- the module
pub record IsModule (m : Module) : Type 0 where
  pub few_sections : length m.sections ≤ most_section_headers
  pub few_symbols : length m.symbols < most_symbol_entries
  pub few_relocs : length m.relocs ≤ most_relocations
  pub sections : All IsSect m.sections
  pub symbols : All (IsSym m.sections) m.symbols
  pub relocs : All (IsRel m.sections m.symbols) m.relocs

-- the module of a file is such a module
abbrev pub HoldsModule : Type 0
HoldsModule = (bytes : List ℕ) (m : Module) → ModuleOf bytes m → IsModule m
