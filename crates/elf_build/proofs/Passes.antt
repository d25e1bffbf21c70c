-- A built file passes every rule.
use Rattle.std.proofs.Common.{◌≡◌, ℕ, ◌+◌, ◌-◌, ◌*◌, ◌/◌, ◌%◌, ◌<◌, ◌≤◌, List, [], ◌∷◌, length, take, drop, refl, sym, ◌∙◌, ap, subst, arith, length-append, Bool, true, false, nat_lt, nat_le, Ok}
use Rattle.std.specs.Prelude.{◌==◌, ◌&&◌, ◌||◌, not, if◌then◌else◌, bit_and, slice_index}
use Rattle.std.specs.List.{AllByRecursion, list_any}
use Rattle.elf_read.specs.declared.error.ElfErr.TheVariants.{Short, NotElf, NotPpc, NotRel, BadSection, TooMany}
use Rattle.elf_read.specs.declared.module.Body.{Body}
use Rattle.elf_read.specs.declared.module.Body.TheVariants.{Bytes, Size}
use Rattle.elf_read.specs.declared.module.Sect.{Sect}
use Rattle.elf_read.specs.declared.module.Module.{Module}
use Rattle.elf_read.specs.declared.entries.SectionHeader.{SectionHeader}
use Rattle.elf_read.specs.Places.{half, word}
use Rattle.elf_read.specs.Rule.{Rule, ◌and_then◌, unless, when, first_of, each}
use Rattle.elf_read.specs.Numbered.{total}
use Rattle.elf_read.specs.Rules.{length_rule, ident_from, ident_rule, machine_rule, type_rule, headers_rule, has_content, content_rule, strings_rule, name_rule, load_rule, is_loadable, is_right_symtab, symtab_rule, symbol_rule, table_rule, is_right_table, relocations_rule, relocation_rule, rules_of, checked}
use Rattle.elf_read.specs.Tables.{header, header_offset, is_loaded, symtab, symbol_count, has_name, is_zero, is_applied, rela_count}
use Rattle.elf_read.specs.Contents.{ModuleOf}
use Rattle.elf_build.specs.Entries.{header_bytes, kind_of}
use Rattle.elf_build.specs.File.{RelocTable, tables_of, header_total, symbols_of, strings_of, names_of, symbols_at, relocs_at, strings_at, names_at, headers_at, count_of, elf_header, file_of, null_header, symtab_header, strings_header, locals_end, table_name, table_header, table_headers, fixed_names}
use Rattle.elf_build.specs.Buildable.{Buildable}
use Rattle.elf_build.specs.Laws.{ReadsBack}
use Rattle.elf_build.proofs.Stands.{Stands, stands_in, half_is, byte_is}
use Rattle.elf_build.proofs.EntryLemmas.{length_header}
use Rattle.elf_build.proofs.Names.{and_true, differs, equals, below, at_most}
use Rattle.elf_build.proofs.Sections.{SectAt, AllAt, each_are}
use Rattle.elf_build.proofs.Symbols.{SymAt}
use Rattle.elf_build.proofs.TableLemmas.{flat_tables}
use Rattle.elf_build.proofs.Relocs.{TableAt, tables_total}
use Rattle.elf_build.proofs.Splits.{and_ok, when_not, each_header, total_zero}
use Rattle.elf_read.proofs.Counting.{total_up}
use Rattle.elf_build.proofs.Known.{Known, length_symbols, not_loaded, null_flags}
use Rattle.elf_build.proofs.Parts.{length_elf_header}
use Rattle.elf_build.proofs.RoundTrip.{Held, held, table_flags, strings_flags, names_flags, kind_not_four, null_kind, table_kind, strings_kind, names_kind, none_in_header, module_holds}

-- ---- the ELF header

ident_by : (bytes : List ℕ) (i : ℕ) (m : ℕ) (ms : List ℕ) → slice_index bytes i ≡ m → ident_from (i + 1) ms bytes ≡ Ok tt → ident_from i (m ∷ ms) bytes ≡ Ok tt
ident_by bytes i m ms h rest = and_ok (unless (slice_index bytes i == m) (NotElf i)) (ident_from (i + 1) ms bytes) (ap (λ b. unless b (NotElf i)) (equals (slice_index bytes i) m h)) rest

elf_header_byte : (bytes : List ℕ) (headers count names i x : ℕ) (ys : List ℕ) → Stands bytes 0 (elf_header headers count names) → i ≤ 52 → drop i (elf_header headers count names) ≡ x ∷ ys → slice_index bytes i ≡ x
elf_header_byte bytes headers count names i x ys s l e =
    let w = length_elf_header headers count names in
    let z : 0 + i ≡ i = omega arith in
    let inside = stands_in bytes 0 i (elf_header headers count names) s (omega arith) in
    byte_is bytes i x ys (subst (λ k. Stands bytes k (x ∷ ys)) z (subst (Stands bytes (0 + i)) e inside))

ident_passes : (bytes : List ℕ) (headers count names : ℕ) → Stands bytes 0 (elf_header headers count names) → ident_rule bytes ≡ Ok tt
unfolding elf_header
ident_passes bytes headers count names s =
    let f = elf_header headers count names in
    ident_by bytes 0 0x7f (0x45 ∷ 0x4c ∷ 0x46 ∷ 1 ∷ 2 ∷ 1 ∷ []) (elf_header_byte bytes headers count names 0 0x7f (drop 1 f) s (omega arith) refl)
    (ident_by bytes 1 0x45 (0x4c ∷ 0x46 ∷ 1 ∷ 2 ∷ 1 ∷ []) (elf_header_byte bytes headers count names 1 0x45 (drop 2 f) s (omega arith) refl)
    (ident_by bytes 2 0x4c (0x46 ∷ 1 ∷ 2 ∷ 1 ∷ []) (elf_header_byte bytes headers count names 2 0x4c (drop 3 f) s (omega arith) refl)
    (ident_by bytes 3 0x46 (1 ∷ 2 ∷ 1 ∷ []) (elf_header_byte bytes headers count names 3 0x46 (drop 4 f) s (omega arith) refl)
    (ident_by bytes 4 1 (2 ∷ 1 ∷ []) (elf_header_byte bytes headers count names 4 1 (drop 5 f) s (omega arith) refl)
    (ident_by bytes 5 2 (1 ∷ []) (elf_header_byte bytes headers count names 5 2 (drop 6 f) s (omega arith) refl)
    (ident_by bytes 6 1 [] (elf_header_byte bytes headers count names 6 1 (drop 7 f) s (omega arith) refl) refl))))))

machine_passes : (bytes : List ℕ) (headers count names : ℕ) → Stands bytes 0 (elf_header headers count names) → machine_rule bytes ≡ Ok tt
unfolding elf_header
machine_passes bytes headers count names s =
    ap (λ b. unless b (NotPpc 18)) (equals (half bytes 18) 20 (half_is bytes 18 20 (drop 20 (elf_header headers count names)) (stands_in bytes 0 18 (elf_header headers count names) s (omega arith)) (omega arith)))

type_passes : (bytes : List ℕ) (headers count names : ℕ) → Stands bytes 0 (elf_header headers count names) → type_rule bytes ≡ Ok tt
unfolding elf_header
type_passes bytes headers count names s =
    ap (λ b. unless b (NotRel 16)) (equals (half bytes 16) 1 (half_is bytes 16 1 (drop 18 (elf_header headers count names)) (stands_in bytes 0 16 (elf_header headers count names) s (omega arith)) (omega arith)))

size_word : (bytes : List ℕ) (headers count names : ℕ) → Stands bytes 0 (elf_header headers count names) → half bytes 46 ≡ 40
unfolding elf_header
size_word bytes headers count names s = half_is bytes 46 40 (drop 48 (elf_header headers count names)) (stands_in bytes 0 46 (elf_header headers count names) s (omega arith)) (omega arith)

pub length_table_headers : (ss : List Sect) (table at : ℕ) (ts : List RelocTable) → length (table_headers ss table at ts) ≡ 40 * length ts
length_table_headers ss table at [] = refl
length_table_headers ss table at (t ∷ ts) =
    let here = table_header (table_name ss t.section) table at t.section (length t.relocs) in
    let a = length_header here in
    let b = length_table_headers ss table (at + 12 * length t.relocs) ts in
    let c = length-append (header_bytes here) (table_headers ss table (at + 12 * length t.relocs) ts) in
    omega arith

headers_pass : (bytes : List ℕ) (m : Module) → Held bytes m → Buildable m → headers_rule bytes ≡ Ok tt
headers_pass bytes m h b =
    let n = count_of m in
    let few = b.few_headers in
    let count = h.facts.count_is in
    let number = h.facts.number_is in
    let place = h.facts.place_is in
    let size = size_word bytes (headers_at m) (header_total m) (n + 3) h.parts.header_fits in
    let w = h.headers.relas.within in
    let l = length_table_headers m.sections (n + 1) (relocs_at m) (tables_of m.relocs) in
    and_ok (unless (half bytes 46 == 40) (BadSection 46)) (unless (not (half bytes 48 == 0)) (BadSection 48) and_then unless (nat_lt (half bytes 50) (half bytes 48)) (BadSection 50) and_then unless (nat_le (half bytes 48) 4096) (TooMany 48) and_then unless (nat_le (word bytes 32 + 40 * half bytes 48) (length bytes)) (Short 32))
    (ap (λ x. unless x (BadSection 46)) (equals (half bytes 46) 40 size))
    (and_ok (unless (not (half bytes 48 == 0)) (BadSection 48)) (unless (nat_lt (half bytes 50) (half bytes 48)) (BadSection 50) and_then unless (nat_le (half bytes 48) 4096) (TooMany 48) and_then unless (nat_le (word bytes 32 + 40 * half bytes 48) (length bytes)) (Short 32))
    (ap (λ x. unless (not x) (BadSection 48)) (differs (half bytes 48) 0 (λ z. omega arith)))
    (and_ok (unless (nat_lt (half bytes 50) (half bytes 48)) (BadSection 50)) (unless (nat_le (half bytes 48) 4096) (TooMany 48) and_then unless (nat_le (word bytes 32 + 40 * half bytes 48) (length bytes)) (Short 32))
    (ap (λ x. unless x (BadSection 50)) (below (half bytes 50) (half bytes 48) (omega arith)))
    (and_ok (unless (nat_le (half bytes 48) 4096) (TooMany 48)) (unless (nat_le (word bytes 32 + 40 * half bytes 48) (length bytes)) (Short 32))
    (ap (λ x. unless x (TooMany 48)) (at_most (half bytes 48) 4096 (omega arith)))
    (ap (λ x. unless x (Short 32)) (at_most (word bytes 32 + 40 * half bytes 48) (length bytes) (omega arith))))))

-- ---- a rule for each header

-- a rule that each header of a built file meets
each_passes : (bytes : List ℕ) (m : Module) (rule : ℕ → Rule) → Held bytes m → rule 0 ≡ Ok tt → ((i : ℕ) (s : Sect) → SectAt bytes i s → rule i ≡ Ok tt) → rule (count_of m + 1) ≡ Ok tt → rule (count_of m + 2) ≡ Ok tt → rule (count_of m + 3) ≡ Ok tt → each (count_of m + 4) (length (tables_of m.relocs)) rule ≡ Ok tt → each 0 (half bytes 48) rule ≡ Ok tt
each_passes bytes m rule h h0 hs h1 h2 h3 hr =
    ap (λ k. each 0 k rule) h.facts.count_is
    ∙ each_header (count_of m) (length (tables_of m.relocs)) rule h0 (each_are (SectAt bytes) rule 1 m.sections hs h.sects) h1 h2 h3 hr

relas_pass : (bytes : List ℕ) (m : Module) (rule : ℕ → Rule) → Held bytes m → ((i : ℕ) (g : RelocTable) → TableAt bytes i g → rule i ≡ Ok tt) → each (count_of m + 4) (length (tables_of m.relocs)) rule ≡ Ok tt
relas_pass bytes m rule h go = each_are (TableAt bytes) rule (count_of m + 4) (tables_of m.relocs) go h.relas

-- ---- contents

null_content : (bytes : List ℕ) (m : Module) → Known bytes m → content_rule bytes 0 ≡ Ok tt
unfolding has_content null_header
null_content bytes m k = ap (λ h. when (has_content h) (unless (nat_le (h.offset + h.size) (length bytes)) (Short (header_offset bytes 0 + 16)))) k.null_is

fits_by : (bytes : List ℕ) (i : ℕ) (h : SectionHeader) → header bytes i ≡ h → h.offset + h.size ≤ length bytes → content_rule bytes i ≡ Ok tt
fits_by bytes i h e l =
    ap (λ x. when (has_content x) (unless (nat_le (x.offset + x.size) (length bytes)) (Short (header_offset bytes i + 16)))) e
    ∙ (ap (λ b. when (has_content h) (unless b (Short (header_offset bytes i + 16)))) (at_most (h.offset + h.size) (length bytes) l)
    ∙ when_ok (has_content h))
  where
    when_ok : (b : Bool) → when b (Ok tt) ≡ Ok tt
    when_ok true = refl
    when_ok false = refl

contents_pass : (bytes : List ℕ) (m : Module) → Held bytes m → each 0 (half bytes 48) (content_rule bytes) ≡ Ok tt
unfolding symtab_header strings_header
contents_pass bytes m h =
    let n = count_of m in
    each_passes bytes m (content_rule bytes) h
    (null_content bytes m h.facts)
    (λ i s x. x.content)
    (fits_by bytes (n + 1) (symtab_header (symbols_at m) (length (symbols_of m.symbols)) (n + 2) (locals_end m.symbols)) h.facts.symtab_is h.parts.symbols.within)
    (fits_by bytes (n + 2) (strings_header 9 (strings_at m) (length (strings_of m.symbols))) h.facts.strings_is h.parts.strings.within)
    (fits_by bytes (n + 3) (strings_header 17 (names_at m) (length (names_of m.sections))) h.facts.names_is h.parts.names.within)
    (relas_pass bytes m (content_rule bytes) h (λ i g x. x.content))

-- ---- names

strings_pass : (bytes : List ℕ) (m : Module) → Held bytes m → strings_rule bytes ≡ Ok tt
strings_pass bytes m h =
    let e : (header bytes (half bytes 50)).kind ≡ 3 = ap (λ i. (header bytes i).kind) h.facts.number_is ∙ names_kind bytes m h.facts in
    ap (λ b. unless b (BadSection (header_offset bytes (half bytes 50)))) (equals (header bytes (half bytes 50)).kind 3 e)

-- a name among the fixed ones
fixed_name : (ss : List Sect) (k : ℕ) → list_any is_zero (take 256 (drop k (names_of ss))) ≡ true → has_name (names_of ss) k ≡ true
unfolding has_name
fixed_name ss k h = h

name_by : (bytes : List ℕ) (m : Module) (i k : ℕ) → Known bytes m → (header bytes i).name ≡ k → has_name (names_of m.sections) k ≡ true → name_rule bytes i ≡ Ok tt
name_by bytes m i k f e t =
    ap (λ x. unless (has_name x (header bytes i).name) (BadSection (header_offset bytes i))) f.section_names_are
    ∙ (ap (λ x. unless (has_name (names_of m.sections) x) (BadSection (header_offset bytes i))) e
    ∙ ap (λ b. unless b (BadSection (header_offset bytes i))) t)

-- the names of the headers that no section has
record HaveNames (names : List ℕ) : Type 0 where
  null : has_name names 0 ≡ true
  symtab : has_name names 1 ≡ true
  strtab : has_name names 9 ≡ true
  shstrtab : has_name names 17 ≡ true

have_names : (ss : List Sect) → HaveNames (names_of ss)
unfolding has_name names_of fixed_names
have_names ss = record { null = refl; symtab = refl; strtab = refl; shstrtab = refl }

null_named : (bytes : List ℕ) (m : Module) → Known bytes m → (header bytes 0).name ≡ 0
unfolding null_header
null_named bytes m k = ap (λ h. h.name) k.null_is

table_named : (bytes : List ℕ) (m : Module) → Known bytes m → (header bytes (count_of m + 1)).name ≡ 1
unfolding symtab_header
table_named bytes m k = ap (λ h. h.name) k.symtab_is

strings_named : (bytes : List ℕ) (m : Module) → Known bytes m → (header bytes (count_of m + 2)).name ≡ 9
unfolding strings_header
strings_named bytes m k = ap (λ h. h.name) k.strings_is

names_named : (bytes : List ℕ) (m : Module) → Known bytes m → (header bytes (count_of m + 3)).name ≡ 17
unfolding strings_header
names_named bytes m k = ap (λ h. h.name) k.names_is

names_pass : (bytes : List ℕ) (m : Module) → Held bytes m → each 0 (half bytes 48) (name_rule bytes) ≡ Ok tt
names_pass bytes m h =
    let n = count_of m in
    let k = h.facts in
    each_passes bytes m (name_rule bytes) h
    (name_by bytes m 0 0 k (null_named bytes m k) (have_names m.sections).null)
    (λ i s x. x.named)
    (name_by bytes m (n + 1) 1 k (table_named bytes m k) (have_names m.sections).symtab)
    (name_by bytes m (n + 2) 9 k (strings_named bytes m k) (have_names m.sections).strtab)
    (name_by bytes m (n + 3) 17 k (names_named bytes m k) (have_names m.sections).shstrtab)
    (relas_pass bytes m (name_rule bytes) h (λ i g x. x.named))

-- ---- loaded sections

not_loading : (bytes : List ℕ) (i : ℕ) → (bit_and (header bytes i).flags 2 == 0) ≡ true → load_rule bytes i ≡ Ok tt
not_loading bytes i h = when_not (is_loaded bytes i) (unless (is_loadable (header bytes i)) (BadSection (header_offset bytes i))) (not_loaded bytes i h)

loads_pass : (bytes : List ℕ) (m : Module) → Held bytes m → each 0 (half bytes 48) (load_rule bytes) ≡ Ok tt
loads_pass bytes m h =
    let n = count_of m in
    let k = h.facts in
    each_passes bytes m (load_rule bytes) h
    (not_loading bytes 0 (null_flags bytes m k))
    (λ i s x. x.loads)
    (not_loading bytes (n + 1) (table_flags bytes m k))
    (not_loading bytes (n + 2) (strings_flags bytes m k))
    (not_loading bytes (n + 3) (names_flags bytes m k))
    (relas_pass bytes m (load_rule bytes) h (λ i g x. not_loading bytes i x.not_loaded))

-- ---- the symbol table

no_table : (bytes : List ℕ) (i k : ℕ) → (header bytes i).kind ≡ k → (k == 2) ≡ false → symtab_rule bytes i ≡ Ok tt
no_table bytes i k e d =
    when_not ((header bytes i).kind == 2) (unless (is_right_symtab bytes i) (BadSection (header_offset bytes i)) and_then unless (nat_le ((header bytes i).size / 16) 65536) (TooMany (header_offset bytes i)))
    (ap (λ x. x == 2) e ∙ d)

kind_not_two : (b : Body) → (kind_of b == 2) ≡ false
kind_not_two (Bytes bs) = refl
kind_not_two (Size n) = refl

table_right : (bytes : List ℕ) (m : Module) → Held bytes m → is_right_symtab bytes (count_of m + 1) ≡ true
unfolding is_right_symtab symtab_header
table_right bytes m h =
    let n = count_of m in
    let k = h.facts in
    let count = k.count_is in
    let long = length_symbols m.symbols in
    let whole : length (symbols_of m.symbols) % 16 ≡ 0 = omega arith in
    let kind = strings_kind bytes m k in
    ap (λ x. ((n + 1) == symtab bytes) && ((x.entry_size == 16) && ((x.size % 16 == 0) && (nat_lt x.link (half bytes 48) && ((header bytes x.link).kind == 3))))) k.symtab_is
    ∙ and_true ((n + 1) == symtab bytes) ((length (symbols_of m.symbols) % 16 == 0) && (nat_lt (n + 2) (half bytes 48) && ((header bytes (n + 2)).kind == 3))) (equals (n + 1) (symtab bytes) (sym h.table))
    (and_true (length (symbols_of m.symbols) % 16 == 0) (nat_lt (n + 2) (half bytes 48) && ((header bytes (n + 2)).kind == 3)) (equals (length (symbols_of m.symbols) % 16) 0 whole)
    (and_true (nat_lt (n + 2) (half bytes 48)) ((header bytes (n + 2)).kind == 3) (below (n + 2) (half bytes 48) (omega arith)) (equals (header bytes (n + 2)).kind 3 kind)))

table_small : (bytes : List ℕ) (m : Module) → Held bytes m → Buildable m → nat_le ((header bytes (count_of m + 1)).size / 16) 65536 ≡ true
unfolding symtab_header
table_small bytes m h b =
    let few = b.sound.few_symbols in
    let long = length_symbols m.symbols in
    let size : (header bytes (count_of m + 1)).size ≡ length (symbols_of m.symbols) = ap (λ x. x.size) h.facts.symtab_is in
    at_most ((header bytes (count_of m + 1)).size / 16) 65536 (omega arith)

table_passes : (bytes : List ℕ) (m : Module) → Held bytes m → Buildable m → symtab_rule bytes (count_of m + 1) ≡ Ok tt
table_passes bytes m h b =
    let i = count_of m + 1 in
    let rest = unless (is_right_symtab bytes i) (BadSection (header_offset bytes i)) and_then unless (nat_le ((header bytes i).size / 16) 65536) (TooMany (header_offset bytes i)) in
    ap (λ x. when x rest) (equals (header bytes i).kind 2 (table_kind bytes m h.facts))
    ∙ and_ok (unless (is_right_symtab bytes i) (BadSection (header_offset bytes i))) (unless (nat_le ((header bytes i).size / 16) 65536) (TooMany (header_offset bytes i)))
    (ap (λ x. unless x (BadSection (header_offset bytes i))) (table_right bytes m h))
    (ap (λ x. unless x (TooMany (header_offset bytes i))) (table_small bytes m h b))

tables_pass : (bytes : List ℕ) (m : Module) → Held bytes m → Buildable m → each 0 (half bytes 48) (symtab_rule bytes) ≡ Ok tt
tables_pass bytes m h b =
    let n = count_of m in
    let k = h.facts in
    each_passes bytes m (symtab_rule bytes) h
    (no_table bytes 0 0 (null_kind bytes m k) refl)
    (λ i s x. no_table bytes i (kind_of s.body) x.kind (kind_not_two s.body))
    (table_passes bytes m h b)
    (no_table bytes (n + 2) 3 (strings_kind bytes m k) refl)
    (no_table bytes (n + 3) 3 (names_kind bytes m k) refl)
    (relas_pass bytes m (symtab_rule bytes) h (λ i g x. no_table bytes i 4 x.kind refl))

symbols_pass : (bytes : List ℕ) (m : Module) → Held bytes m → each 1 (symbol_count bytes - 1) (symbol_rule bytes) ≡ Ok tt
symbols_pass bytes m h =
    let c = h.count in
    let e : symbol_count bytes - 1 ≡ length m.symbols = omega arith in
    ap (λ k. each 1 k (symbol_rule bytes)) e ∙ each_are (SymAt bytes) (symbol_rule bytes) 1 m.symbols (λ k s x. x.fits) h.syms

-- ---- relocations

kind_not_nine : (b : Body) → (kind_of b == 4 || kind_of b == 9) ≡ false
kind_not_nine (Bytes bs) = refl
kind_not_nine (Size n) = refl

no_relocs : (bytes : List ℕ) (i k : ℕ) → (header bytes i).kind ≡ k → (k == 4 || k == 9) ≡ false → table_rule bytes i ≡ Ok tt
no_relocs bytes i k e d =
    when_not ((header bytes i).kind == 4 || (header bytes i).kind == 9)
    (unless (nat_lt (header bytes i).info (half bytes 48)) (BadSection (header_offset bytes i)) and_then when (is_loaded bytes (header bytes i).info) (unless (is_right_table bytes i) (BadSection (header_offset bytes i)) and_then unless (nat_le (total (i + 1) (rela_count bytes)) 1048576) (TooMany (header_offset bytes i))))
    (ap (λ x. x == 4 || x == 9) e ∙ d)

total_low : (bytes : List ℕ) (m : Module) → Held bytes m → Buildable m → (i : ℕ) → i < header_total m → total (i + 1) (rela_count bytes) ≤ 1048576
total_low bytes m h b i l =
    let n = count_of m in
    let gs = tables_of m.relocs in
    let header_fits = total_zero (n + 4) (rela_count bytes) (none_in_header bytes m h) in
    let all = tables_total bytes (n + 4) gs h.relas in
    let flat = ap length (flat_tables m.relocs) in
    let few = b.sound.few_relocs in
    let rest : ℕ = header_total m - (i + 1) in
    let grows = total_up rest (i + 1) (rela_count bytes) in
    let e : i + 1 + rest ≡ n + 4 + length gs = omega arith in
    let same : total (i + 1 + rest) (rela_count bytes) ≡ total (n + 4 + length gs) (rela_count bytes) = ap (λ k. total k (rela_count bytes)) e in
    omega arith

rela_passes : (bytes : List ℕ) (m : Module) (i : ℕ) (g : RelocTable) → total (i + 1) (rela_count bytes) ≤ 1048576 → TableAt bytes i g → table_rule bytes i ≡ Ok tt
rela_passes bytes m i g t x =
    let inner = unless (is_right_table bytes i) (BadSection (header_offset bytes i)) and_then unless (nat_le (total (i + 1) (rela_count bytes)) 1048576) (TooMany (header_offset bytes i)) in
    ap (λ k. when (k == 4 || k == 9) (unless (nat_lt (header bytes i).info (half bytes 48)) (BadSection (header_offset bytes i)) and_then when (is_loaded bytes (header bytes i).info) inner)) x.kind
    ∙ and_ok (unless (nat_lt (header bytes i).info (half bytes 48)) (BadSection (header_offset bytes i))) (when (is_loaded bytes (header bytes i).info) inner)
    (ap (λ b. unless b (BadSection (header_offset bytes i))) (below (header bytes i).info (half bytes 48) x.low))
    (ap (λ b. when b inner) x.target
    ∙ and_ok (unless (is_right_table bytes i) (BadSection (header_offset bytes i))) (unless (nat_le (total (i + 1) (rela_count bytes)) 1048576) (TooMany (header_offset bytes i)))
    (ap (λ b. unless b (BadSection (header_offset bytes i))) x.form)
    (ap (λ b. unless b (TooMany (header_offset bytes i))) (at_most (total (i + 1) (rela_count bytes)) 1048576 t)))

-- a rule for each group, if the number stays below a bound
each_below : (bytes : List ℕ) (rule : ℕ → Rule) (i n : ℕ) (gs : List RelocTable) → i + length gs ≤ n → ((j : ℕ) (g : RelocTable) → j < n → TableAt bytes j g → rule j ≡ Ok tt) → AllAt (TableAt bytes) i gs → each i (length gs) rule ≡ Ok tt
each_below bytes rule i n [] l go all = refl
each_below bytes rule i n (g ∷ gs) l go (one, others) =
    and_ok (rule i) (each (i + 1) (length gs) rule) (go i g (omega arith) one) (each_below bytes rule (i + 1) n gs (omega arith) go others)

relocs_pass : (bytes : List ℕ) (m : Module) → Held bytes m → Buildable m → each 0 (half bytes 48) (table_rule bytes) ≡ Ok tt
relocs_pass bytes m h b =
    let n = count_of m in
    let k = h.facts in
    let gs = tables_of m.relocs in
    each_passes bytes m (table_rule bytes) h
    (no_relocs bytes 0 0 (null_kind bytes m k) refl)
    (λ i s x. no_relocs bytes i (kind_of s.body) x.kind (kind_not_nine s.body))
    (no_relocs bytes (n + 1) 2 (table_kind bytes m k) refl)
    (no_relocs bytes (n + 2) 3 (strings_kind bytes m k) refl)
    (no_relocs bytes (n + 3) 3 (names_kind bytes m k) refl)
    (each_below bytes (table_rule bytes) (n + 4) (header_total m) gs (omega arith) (λ i g l x. rela_passes bytes m i g (total_low bytes m h b i l) x) h.relas)

no_entries : (bytes : List ℕ) (i : ℕ) → rela_count bytes i ≡ 0 → relocations_rule bytes i ≡ Ok tt
no_entries bytes i h = ap (λ k. each 0 k (relocation_rule bytes i)) h

no_rela : (bytes : List ℕ) (i k : ℕ) → (header bytes i).kind ≡ k → (k == 4) ≡ false → rela_count bytes i ≡ 0
unfolding rela_count is_applied
no_rela bytes i k e d = ap (λ x. if x == 4 && is_loaded bytes (header bytes i).info then (header bytes i).size / 12 else 0) e ∙ ap (λ b. if b && is_loaded bytes (header bytes i).info then (header bytes i).size / 12 else 0) d

entries_pass : (bytes : List ℕ) (m : Module) → Held bytes m → each 0 (half bytes 48) (relocations_rule bytes) ≡ Ok tt
entries_pass bytes m h =
    let n = count_of m in
    let header_fits = none_in_header bytes m h in
    each_passes bytes m (relocations_rule bytes) h
    (no_entries bytes 0 (header_fits 0 (omega arith)))
    (λ i s x. no_entries bytes i (no_rela bytes i (kind_of s.body) x.kind (kind_not_four s.body)))
    (no_entries bytes (n + 1) (header_fits (n + 1) (omega arith)))
    (no_entries bytes (n + 2) (header_fits (n + 2) (omega arith)))
    (no_entries bytes (n + 3) (header_fits (n + 3) (omega arith)))
    (relas_pass bytes m (relocations_rule bytes) h (λ i g x. x.right))

-- ---- all of them

long_passes : (bytes : List ℕ) (m : Module) → Held bytes m → length_rule bytes ≡ Ok tt
long_passes bytes m h =
    let w = h.parts.header_fits.within in
    let l = length_elf_header (headers_at m) (header_total m) (count_of m + 3) in
    ap (λ b. unless b (Short (length bytes))) (at_most 52 (length bytes) (omega arith))

-- a list of rules that all hold
rules_pass : (rs : List Rule) → AllByRecursion (λ r. r ≡ Ok tt) rs → first_of rs ≡ Ok tt
rules_pass [] h = refl
rules_pass (r ∷ rs) (p, ps) = and_ok r (first_of rs) p (rules_pass rs ps)

all_pass : (bytes : List ℕ) (m : Module) → Held bytes m → Buildable m → checked bytes ≡ Ok tt
unfolding checked
all_pass bytes m h b =
    let n = count_of m in
    rules_pass (rules_of bytes) (
      long_passes bytes m h,
      (
        ident_passes bytes (headers_at m) (header_total m) (n + 3) h.parts.header_fits,
        (
          machine_passes bytes (headers_at m) (header_total m) (n + 3) h.parts.header_fits,
          (
            type_passes bytes (headers_at m) (header_total m) (n + 3) h.parts.header_fits,
            (
              headers_pass bytes m h b,
              (
                contents_pass bytes m h,
                (
                  and_ok (strings_rule bytes) (each 0 (half bytes 48) (name_rule bytes)) (strings_pass bytes m h) (names_pass bytes m h),
                  (
                    loads_pass bytes m h,
                    (
                      tables_pass bytes m h b,
                      (
                        symbols_pass bytes m h,
                        (
                          relocs_pass bytes m h b,
                          (entries_pass bytes m h, tt),
                        ),
                      ),
                    ),
                  ),
                ),
              ),
            ),
          ),
        ),
      ),
    )

pub reads_back : ReadsBack
reads_back m b = let h = held m b in record { passes = all_pass (file_of m) m h b; holds = sym (module_holds (file_of m) m h) }

pub read_again : (bytes : List ℕ) (m : Module) → bytes ≡ file_of m → Buildable m → ModuleOf bytes m
read_again bytes m e b = subst (λ x. ModuleOf x m) (sym e) (reads_back m b)
