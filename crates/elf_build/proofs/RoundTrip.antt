-- Reading a built file gives its module.
use Rattle.std.proofs.Common.{◌≡◌, ℕ, suc, ◌+◌, ◌-◌, ◌/◌, ◌<◌, List, [], ◌∷◌, length, get_or, refl, ◌∙◌, ap, arith, append-nil, true, false}
use Rattle.std.specs.Prelude.{◌==◌, ◌&&◌, if◌then◌else◌, bit_and}
use Rattle.elf_read.specs.declared.module.Body.{Body}
use Rattle.elf_read.specs.declared.module.Body.TheVariants.{Bytes, Size}
use Rattle.elf_read.specs.declared.module.Module.{Module}
use Rattle.elf_read.specs.Places.{half}
use Rattle.elf_read.specs.Numbered.{gathered}
use Rattle.elf_read.specs.Tables.{header, is_loaded, symtab, has_symtab, symbol_count, is_applied, rela_count}
use Rattle.elf_read.specs.Contents.{module_at, sect_of, sects_at, syms_at, rels_at, rel_of}
use Rattle.elf_build.specs.Entries.{kind_of}
use Rattle.elf_build.specs.File.{tables_of, count_of, file_of, null_header, symtab_header, strings_header}
use Rattle.elf_build.specs.Buildable.{Buildable}
use Rattle.elf_build.proofs.Spread.{Parts, Headers, parts_stand, headers_stand}
use Rattle.elf_build.proofs.Names.{else_branch}
use Rattle.elf_build.proofs.Sections.{SectAt, AllAt, sects_gathered}
use Rattle.elf_build.proofs.Symbols.{Loads, SymAt, syms_gathered}
use Rattle.elf_build.proofs.TableLemmas.{flat_tables}
use Rattle.elf_build.proofs.Relocs.{TableAt, tables_gathered}
use Rattle.elf_build.proofs.Splits.{gathered_headers, gathered_none_at, prefix_headers}
use Rattle.elf_build.proofs.Known.{Known, known, sects_held, loads_held, table_held, table_there, count_held, syms_held, relas_held, not_loaded, null_flags, sect_at, no_sect}

-- what is known of a built file
pub record Held (bytes : List ℕ) (m : Module) : Type 0 where
  pub parts : Parts bytes m
  pub headers : Headers bytes m
  pub facts : Known bytes m
  pub sects : AllAt (SectAt bytes) 1 m.sections
  pub loads : Loads bytes m.sections
  pub table : symtab bytes ≡ count_of m + 1
  pub there : has_symtab bytes ≡ true
  pub count : symbol_count bytes ≡ suc (length m.symbols)
  pub syms : AllAt (SymAt bytes) 1 m.symbols
  pub relas : AllAt (TableAt bytes) (count_of m + 4) (tables_of m.relocs)

pub held : (m : Module) → Buildable m → Held (file_of m) m
held m b =
    let p = parts_stand m b in
    let h = headers_stand (file_of m) m p.headers in
    let k = known (file_of m) m p h b in
    let sects = sects_held (file_of m) m p h k b in
    let loads = loads_held (file_of m) m k b sects in
    let table = table_held (file_of m) m k sects in
    let there = table_there (file_of m) m k table in
    let count = count_held (file_of m) m k table there in
    let syms = syms_held (file_of m) m p k b loads table in
    record {
      parts = p;
      headers = h;
      facts = k;
      sects = sects;
      loads = loads;
      table = table;
      there = there;
      count = count;
      syms = syms;
      relas = relas_held (file_of m) m p h k b sects loads table there count syms;
    }

-- ---- the file's module

pub table_flags : (bytes : List ℕ) (m : Module) → Known bytes m → (bit_and (header bytes (count_of m + 1)).flags 2 == 0) ≡ true
unfolding symtab_header
table_flags bytes m k = ap (λ h. bit_and h.flags 2 == 0) k.symtab_is

pub strings_flags : (bytes : List ℕ) (m : Module) → Known bytes m → (bit_and (header bytes (count_of m + 2)).flags 2 == 0) ≡ true
unfolding strings_header
strings_flags bytes m k = ap (λ h. bit_and h.flags 2 == 0) k.strings_is

pub names_flags : (bytes : List ℕ) (m : Module) → Known bytes m → (bit_and (header bytes (count_of m + 3)).flags 2 == 0) ≡ true
unfolding strings_header
names_flags bytes m k = ap (λ h. bit_and h.flags 2 == 0) k.names_is

no_sect_at : (bytes : List ℕ) (i : ℕ) → (bit_and (header bytes i).flags 2 == 0) ≡ true → sects_at bytes i ≡ []
no_sect_at bytes i h = else_branch (is_loaded bytes i) (sect_of bytes i ∷ []) [] (not_loaded bytes i h)

sections_hold : (bytes : List ℕ) (m : Module) → Held bytes m → gathered 0 (half bytes 48) (sects_at bytes) ≡ m.sections
sections_hold bytes m h =
    let n = count_of m in
    let gs = tables_of m.relocs in
    let relas : gathered (n + 4) (length gs) (sects_at bytes) ≡ [] = gathered_none_at (TableAt bytes) (sects_at bytes) (n + 4) gs (λ j g x. no_sect_at bytes j x.not_loaded) h.relas in
    ap (λ k. gathered 0 k (sects_at bytes)) h.facts.count_is
    ∙ (gathered_headers n (length gs) (sects_at bytes) m.sections []
    (no_sect_at bytes 0 (null_flags bytes m h.facts))
    (sects_gathered bytes 1 m.sections h.sects)
    (no_sect_at bytes (n + 1) (table_flags bytes m h.facts))
    (no_sect_at bytes (n + 2) (strings_flags bytes m h.facts))
    (no_sect_at bytes (n + 3) (names_flags bytes m h.facts))
    relas
    ∙ append-nil m.sections)

symbols_hold : (bytes : List ℕ) (m : Module) → Held bytes m → gathered 1 (symbol_count bytes - 1) (syms_at bytes) ≡ m.symbols
symbols_hold bytes m h =
    let c = h.count in
    let e : symbol_count bytes - 1 ≡ length m.symbols = omega arith in
    ap (λ k. gathered 1 k (syms_at bytes)) e ∙ syms_gathered bytes 1 m.symbols h.syms

-- no relocations if the kind isn't 4
no_rels : (bytes : List ℕ) (i : ℕ) → ((header bytes i).kind == 4) ≡ false → rela_count bytes i ≡ 0
unfolding rela_count is_applied
no_rels bytes i h = ap (λ b. if b && is_loaded bytes (header bytes i).info then (header bytes i).size / 12 else 0) h

no_rels_at : (bytes : List ℕ) (i : ℕ) → rela_count bytes i ≡ 0 → rels_at bytes i ≡ []
unfolding rels_at
no_rels_at bytes i h = ap (λ k. gathered 0 k (λ q. rel_of bytes i q ∷ [])) h

pub kind_not_four : (b : Body) → (kind_of b == 4) ≡ false
kind_not_four (Bytes bs) = refl
kind_not_four (Size n) = refl

pub null_kind : (bytes : List ℕ) (m : Module) → Known bytes m → (header bytes 0).kind ≡ 0
unfolding null_header
null_kind bytes m k = ap (λ h. h.kind) k.null_is

pub table_kind : (bytes : List ℕ) (m : Module) → Known bytes m → (header bytes (count_of m + 1)).kind ≡ 2
unfolding symtab_header
table_kind bytes m k = ap (λ h. h.kind) k.symtab_is

pub strings_kind : (bytes : List ℕ) (m : Module) → Known bytes m → (header bytes (count_of m + 2)).kind ≡ 3
unfolding strings_header
strings_kind bytes m k = ap (λ h. h.kind) k.strings_is

pub names_kind : (bytes : List ℕ) (m : Module) → Known bytes m → (header bytes (count_of m + 3)).kind ≡ 3
unfolding strings_header
names_kind bytes m k = ap (λ h. h.kind) k.names_is

pub none_in_header : (bytes : List ℕ) (m : Module) → Held bytes m → (i : ℕ) → i < count_of m + 4 → rela_count bytes i ≡ 0
none_in_header bytes m h =
    prefix_headers (count_of m) (λ i. rela_count bytes i ≡ 0)
    (no_rels bytes 0 (ap (λ x. x == 4) (null_kind bytes m h.facts)))
    (λ k l. no_rels bytes (suc k) (ap (λ x. x == 4) (sect_at bytes m h.sects k l no_sect).kind ∙ kind_not_four (get_or m.sections k no_sect).body))
    (no_rels bytes (count_of m + 1) (ap (λ x. x == 4) (table_kind bytes m h.facts)))
    (no_rels bytes (count_of m + 2) (ap (λ x. x == 4) (strings_kind bytes m h.facts)))
    (no_rels bytes (count_of m + 3) (ap (λ x. x == 4) (names_kind bytes m h.facts)))

relocs_hold : (bytes : List ℕ) (m : Module) → Held bytes m → gathered 0 (half bytes 48) (rels_at bytes) ≡ m.relocs
relocs_hold bytes m h =
    let n = count_of m in
    let gs = tables_of m.relocs in
    let header_fits = none_in_header bytes m h in
    let relas : gathered (n + 4) (length gs) (rels_at bytes) ≡ m.relocs = tables_gathered bytes (n + 4) gs h.relas ∙ flat_tables m.relocs in
    let sects : gathered 1 n (rels_at bytes) ≡ [] =
    gathered_none_at (SectAt bytes) (rels_at bytes) 1 m.sections
    (λ j s x. no_rels_at bytes j (no_rels bytes j (ap (λ y. y == 4) x.kind ∙ kind_not_four s.body))) h.sects in
    ap (λ k. gathered 0 k (rels_at bytes)) h.facts.count_is
    ∙ gathered_headers n (length gs) (rels_at bytes) [] m.relocs
    (no_rels_at bytes 0 (header_fits 0 (omega arith)))
    sects
    (no_rels_at bytes (n + 1) (header_fits (n + 1) (omega arith)))
    (no_rels_at bytes (n + 2) (header_fits (n + 2) (omega arith)))
    (no_rels_at bytes (n + 3) (header_fits (n + 3) (omega arith)))
    relas

same_module : (a m : Module) → a.sections ≡ m.sections → a.symbols ≡ m.symbols → a.relocs ≡ m.relocs → a ≡ m
same_module a m p1 p2 p3 =
    ap (λ x. record { sections = x; symbols = a.symbols; relocs = a.relocs }) p1
    ∙ (ap (λ x. record { sections = m.sections; symbols = x; relocs = a.relocs }) p2
    ∙ ap (λ x. record { sections = m.sections; symbols = m.symbols; relocs = x }) p3)

pub module_holds : (bytes : List ℕ) (m : Module) → Held bytes m → module_at bytes ≡ m
unfolding module_at
module_holds bytes m h = same_module (module_at bytes) m (sections_hold bytes m h) (symbols_hold bytes m h) (relocs_hold bytes m h)
