-- What is required of the sections, symbols and relocations of a buildable module, one by one.
use Rattle.std.proofs.Common.{◌≡◌, ◌≢◌, ℕ, ◌+◌, ◌<◌, ◌≤◌, ◌^◌, List, length, get_or, true, refl}
use Rattle.std.specs.List.{All}
use Rattle.wind_base.specs.Limits.{most_section_bytes}
use Rattle.elf_read.specs.declared.module.SymPlace.{SymPlace}
use Rattle.elf_read.specs.declared.module.SymPlace.TheVariants.{Undefined, Absolute, Common, Section, Elsewhere}
use Rattle.elf_read.specs.declared.module.Sect.{Sect}
use Rattle.elf_read.specs.declared.module.Sym.{Sym}
use Rattle.elf_read.specs.declared.module.Rel.{Rel}
use Rattle.elf_read.specs.declared.module.Module.{Module}
use Rattle.elf_read.specs.Standard.{stb_weak, stt_common}
use Rattle.elf_read.specs.Tables.{width}
use Rattle.elf_read.specs.Rules.{is_alignment}
use Rattle.elf_read.specs.Modules.{IsName, IsSect, size_of, IsPlaced, HoldsBytes}
use Rattle.elf_build.specs.Buildable.{Buildable}

pub record GoodSect (s : Sect) : Type 0 where
  pub sound : IsSect s
  pub flags : s.flags < 2 ^ 32

-- a symbol's place is one that a file with only loaded sections has
abbrev pub GoodPlace : List Sect → SymPlace → ℕ → ℕ → Type 0
GoodPlace ss Undefined value size = Unit {0}
GoodPlace ss Absolute value size = Unit {0}
GoodPlace ss Common value size = (is_alignment value ≡ true) × (size ≤ most_section_bytes)
GoodPlace ss (Section k) value size = (k < length ss) × ((d : Sect) → value ≤ size_of (get_or ss k d).body)
GoodPlace ss Elsewhere value size = ⊥

pub record GoodSym (ss : List Sect) (s : Sym) : Type 0 where
  pub name : IsName s.name
  pub binding : s.binding ≤ stb_weak
  pub kind : s.kind ≤ stt_common
  pub place : GoodPlace ss s.place s.value s.size
  pub value : s.value < 2 ^ 32
  pub size : s.size < 2 ^ 32

pub record GoodRel (ss : List Sect) (symbols : ℕ) (r : Rel) : Type 0 where
  pub section : r.section < length ss
  pub within : (d : Sect) → HoldsBytes (get_or ss r.section d).body (r.offset + width r.kind)
  pub symbol : r.symbol ≤ symbols
  pub kind : r.kind < 256
  pub addend : r.addend < 2 ^ 32

pub good_sects : (m : Module) → Buildable m → All GoodSect m.sections
good_sects m b = λ k d l. record { sound = b.sound.sections k d l; flags = b.sections_fit k d l }

good_place : (ss : List Sect) (p : SymPlace) (value size : ℕ) → IsPlaced ss p value size → p ≢ Elsewhere → GoodPlace ss p value size
good_place ss Undefined value size h e = tt
good_place ss Absolute value size h e = tt
good_place ss Common value size h e = h
good_place ss (Section k) value size h e = h
good_place ss Elsewhere value size h e = absurd (e refl)

pub good_syms : (m : Module) → Buildable m → All (GoodSym m.sections) m.symbols
good_syms m b = λ k d l.
    let s = b.sound.symbols k d l in
    let y = get_or m.symbols k d in
    let f = b.symbols_fit k d l in
    record { name = s.name; binding = s.binding; kind = s.kind; place = good_place m.sections y.place y.value y.size s.place (b.here k d l); value = f.0; size = f.1 }

pub good_rels : (m : Module) → Buildable m → All (GoodRel m.sections (length m.symbols)) m.relocs
good_rels m b = λ k d l.
    let r = b.sound.relocs k d l in
    let f = b.relocs_fit k d l in
    record { section = r.section; within = r.inside; symbol = r.symbol; kind = f.0; addend = f.1 }
