-- What is known of a file's module, by the rules that don't refuse the file.
use Rattle.std.proofs.Common.{◌≡◌, ℕ, zero, suc, ◌+◌, ◌-◌, ◌/◌, ◌<◌, ◌≤◌, List, [], ◌∷◌, length, get_or, take, drop, refl, sym, ◌∙◌, ap, subst, arith, length-take, length-drop, Bool, true, false, Ok}
use Rattle.std.specs.Prelude.{◌≢◌, ◌==◌, ◌&&◌, ◌||◌, not, nat_lt, nat_le, bit_and, if◌then◌else◌}
use Rattle.std.specs.List.{All, list_any}
use Rattle.std.proofs.lemmas.List.Elements.{All-nil, All-cons}
use Rattle.std.proofs.lemmas.Bool.Decides.{nat_tests}
use Rattle.wind_base.specs.Limits.{longest_name, most_section_headers, most_symbol_entries, most_relocations, most_section_bytes}
use Rattle.elf_read.specs.declared.error.ElfErr.TheVariants.{Short, BadSection, BadSymbol, BadReloc, TooMany}
use Rattle.elf_read.specs.declared.module.Body.TheVariants.{Bytes, Size}
use Rattle.elf_read.specs.declared.module.SymPlace.TheVariants.{Undefined, Absolute, Common, Section, Elsewhere}
use Rattle.elf_read.specs.declared.module.Sect.{Sect}
use Rattle.elf_read.specs.declared.module.Sym.{Sym}
use Rattle.elf_read.specs.declared.module.Rel.{Rel}
use Rattle.elf_read.specs.declared.module.Module.{Module}
use Rattle.elf_read.specs.declared.entries.SectionHeader.{SectionHeader}
use Rattle.elf_read.specs.declared.entries.SymbolEntry.{SymbolEntry}
use Rattle.elf_read.specs.declared.entries.RelaEntry.{RelaEntry}
use Rattle.elf_read.specs.Standard.{e_shentsize, e_shnum, e_shoff, e_shstrndx, shdr_bytes, sh_offset, sht_null, sht_progbits, sht_note, sht_nobits, sht_rela, sht_rel, shf_alloc, shf_tls_or_compressed, sym_bytes, shn_undef, shn_abs, shn_common, st_bind, st_type, stb_weak, stt_common, rela_bytes, r_sym, r_type}
use Rattle.elf_read.specs.Places.{half, part, text_of}
use Rattle.elf_read.specs.Rule.{◌and_then◌, unless, when, each}
use Rattle.elf_read.specs.Numbered.{gathered, total}
use Rattle.elf_read.specs.Rules.{headers_rule, has_content, content_rule, strings_rule, name_rule, names_rule, is_alignment, is_loadable, load_rule, is_right_symtab, symtab_rule, has_place, lies_inside, is_right_common, is_right_symbol, symbol_rule, is_right_table, table_rule, is_right_relocation, relocation_rule, relocations_rule, rules_of, checked}
use Rattle.elf_read.specs.Tables.{header_count, header_offset, header, content, is_loaded, one_loaded, loaded_before, is_elsewhere, is_zero, has_name, section_names, is_symtab, symtab, has_symtab, symbol_count, symbol_offset, symbol, symbol_names, is_applied, rela_count, rela_offset, relocation, width}
use Rattle.elf_read.specs.Contents.{name_at, body_of, sect_of, sects_at, place_of, sym_of, syms_at, rel_of, rels_at, module_at}
use Rattle.elf_read.specs.Modules.{IsName, size_of, IsSect, IsPlaced, IsSym, HoldsBytes, IsRel, IsModule, HoldsModule}
use Rattle.elf_read.proofs.Passing.{left_true, right_true, not_false, at_most, less, first_holds, rest_holds, unless_holds, when_holds, holds_at, each_holds, all_hold}
use Rattle.elf_read.proofs.Counting.{all_gathered, length_all, length_ones, item_at, one_at, total_below, total_few, total_bound, first_passes}

-- the rules that are used here, by number
record Passed (bytes : List ℕ) : Type 0 where
  headers : headers_rule bytes ≡ Ok tt
  contents : (i : ℕ) → i < header_count bytes → content_rule bytes i ≡ Ok tt
  names : (i : ℕ) → i < header_count bytes → name_rule bytes i ≡ Ok tt
  loads : (i : ℕ) → i < header_count bytes → load_rule bytes i ≡ Ok tt
  symtabs : (i : ℕ) → i < header_count bytes → symtab_rule bytes i ≡ Ok tt
  symbols : each 1 (symbol_count bytes - 1) (symbol_rule bytes) ≡ Ok tt
  tables : (i : ℕ) → i < header_count bytes → table_rule bytes i ≡ Ok tt
  relocations : (i : ℕ) → i < header_count bytes → relocations_rule bytes i ≡ Ok tt

passed : (bytes : List ℕ) → checked bytes ≡ Ok tt → Passed bytes
unfolding checked
passed bytes h =
    let at = holds_at (rules_of bytes) h in
    let n = header_count bytes in
    record {
      headers = at 4 (headers_rule bytes) refl;
      contents = λ i l. all_hold n i (content_rule bytes) (at 5 (each 0 n (content_rule bytes)) refl) l;
      names = λ i l. all_hold n i (name_rule bytes) (rest_holds (strings_rule bytes) (each 0 n (name_rule bytes)) (at 6 (names_rule bytes) refl)) l;
      loads = λ i l. all_hold n i (load_rule bytes) (at 7 (each 0 n (load_rule bytes)) refl) l;
      symtabs = λ i l. all_hold n i (symtab_rule bytes) (at 8 (each 0 n (symtab_rule bytes)) refl) l;
      symbols = at 9 (each 1 (symbol_count bytes - 1) (symbol_rule bytes)) refl;
      tables = λ i l. all_hold n i (table_rule bytes) (at 10 (each 0 n (table_rule bytes)) refl) l;
      relocations = λ i l. all_hold n i (relocations_rule bytes) (at 11 (each 0 n (relocations_rule bytes)) refl) l;
    }

-- ---- names
no_zero : (bs : List ℕ) (i d : ℕ) → i < length (text_of bs) → get_or (text_of bs) i d ≢ 0
no_zero [] i d l = absurd (omega arith)
no_zero (b ∷ bs) i d l = by (λ j m. no_zero bs j d m) (b == 0) refl i l
  where
    by : ((j : ℕ) → j < length (text_of bs) → get_or (text_of bs) j d ≢ 0) → (z : Bool) → (b == 0) ≡ z → (i : ℕ) → i < length (if z then [] else b ∷ text_of bs) → get_or (if z then [] else b ∷ text_of bs) i d ≢ 0
    by more true is i l = absurd (omega arith)
    by more false is zero l = λ e. grind (arith, nat_tests)
    by more false is (suc i) l = more i (omega arith)

short_text : (bs : List ℕ) (n : ℕ) → list_any is_zero (take (suc n) bs) ≡ true → length (text_of bs) ≤ n
short_text [] n h = omega arith
short_text (b ∷ bs) n h = by (λ m k. short_text bs m k) (b == 0) n h
  where
    by : ((m : ℕ) → list_any is_zero (take (suc m) bs) ≡ true → length (text_of bs) ≤ m) → (z : Bool) → (n : ℕ) → (z || list_any is_zero (take n bs)) ≡ true → length (if z then [] else b ∷ text_of bs) ≤ n
    by more true n h = omega arith
    by more false zero h = cc
    by more false (suc n) h = let short = more n h in omega arith

name_is : (strings : List ℕ) (k : ℕ) → has_name strings k ≡ true → IsName (name_at strings k)
unfolding has_name
name_is strings k h = record { size = short_text (drop k strings) longest_name h; no_zero = λ i d l. no_zero (drop k strings) i d l }

-- ---- sections
loaded_low : (bytes : List ℕ) (i : ℕ) → is_loaded bytes i ≡ true → i < header_count bytes
unfolding is_loaded
loaded_low bytes i h = less i (header_count bytes) (left_true (nat_lt i (header_count bytes)) (not (bit_and (header bytes i).flags shf_alloc == 0)) h)

loaded_flag : (bytes : List ℕ) (i : ℕ) → is_loaded bytes i ≡ true → (bit_and (header bytes i).flags shf_alloc == 0) ≡ false
unfolding is_loaded
loaded_flag bytes i h = not_false (bit_and (header bytes i).flags shf_alloc == 0) (right_true (nat_lt i (header_count bytes)) (not (bit_and (header bytes i).flags shf_alloc == 0)) h)

record CanLoad (h : SectionHeader) : Type 0 where
  kind : (h.kind == sht_progbits || (h.kind == sht_note || h.kind == sht_nobits)) ≡ true
  plain : (bit_and h.flags shf_tls_or_compressed == 0) ≡ true
  align : (h.align == 0 || is_alignment h.align) ≡ true
  size : h.size ≤ most_section_bytes

loadable_is : (h : SectionHeader) → is_loadable h ≡ true → CanLoad h
unfolding is_loadable
loadable_is h is =
    let kinds = h.kind == sht_progbits || (h.kind == sht_note || h.kind == sht_nobits) in
    let plain = bit_and h.flags shf_tls_or_compressed == 0 in
    let aligned = h.align == 0 || is_alignment h.align in
    let small = nat_le h.size most_section_bytes in
    let r1 = right_true kinds (plain && (aligned && small)) is in
    let r2 = right_true plain (aligned && small) r1 in
    record {
      kind = left_true kinds (plain && (aligned && small)) is;
      plain = left_true plain (aligned && small) r1;
      align = left_true aligned small r2;
      size = at_most h.size most_section_bytes (right_true aligned small r2);
    }

loads_right : (bytes : List ℕ) → Passed bytes → (i : ℕ) → is_loaded bytes i ≡ true → CanLoad (header bytes i)
loads_right bytes p i h =
    loadable_is (header bytes i)
    (unless_holds (is_loadable (header bytes i)) (BadSection (header_offset bytes i))
    (when_holds (is_loaded bytes i) (unless (is_loadable (header bytes i)) (BadSection (header_offset bytes i))) h (p.loads i (loaded_low bytes i h))))

one_alignment : is_alignment 1 ≡ true
unfolding is_alignment
one_alignment = refl

align_right : (n : ℕ) → (n == 0 || is_alignment n) ≡ true → is_alignment (if n == 0 then 1 else n) ≡ true
align_right n h = by (n == 0) h
  where
    by : (z : Bool) → (z || is_alignment n) ≡ true → is_alignment (if z then 1 else n) ≡ true
    by true h = one_alignment
    by false h = h

-- the content of a section is in the file, if the section has bytes
held : (h : SectionHeader) → CanLoad h → (h.kind == sht_nobits) ≡ false → has_content h ≡ true
unfolding has_content
held h can off = by (h.kind == sht_null) refl (h.kind == sht_nobits) off
  where
    by : (z : Bool) → (h.kind == sht_null) ≡ z → (b : Bool) → b ≡ false → (not z && not b) ≡ true
    by true is b off = let k = can.kind in grind (arith, nat_tests)
    by false is b off = cc

length_part : (bytes : List ℕ) (at size : ℕ) → at + size ≤ length bytes → length (part bytes at size) ≡ size
length_part bytes at size l = let t = length-take size (drop at bytes) in let d = length-drop at bytes in omega arith

length_content : (bytes : List ℕ) → Passed bytes → (i : ℕ) → i < header_count bytes → has_content (header bytes i) ≡ true → length (content bytes i) ≡ (header bytes i).size
unfolding content
length_content bytes p i l h =
    let h' = header bytes i in
    let fits = nat_le (h'.offset + h'.size) (length bytes) in
    let e = Short (header_offset bytes i + sh_offset) in
    length_part bytes h'.offset h'.size (at_most (h'.offset + h'.size) (length bytes) (unless_holds fits e (when_holds (has_content h') (unless fits e) h (p.contents i l))))

size_right : (bytes : List ℕ) → Passed bytes → (i : ℕ) → is_loaded bytes i ≡ true → size_of (body_of bytes i (header bytes i)) ≡ (header bytes i).size
size_right bytes p i h = by ((header bytes i).kind == sht_nobits) refl
  where
    by : (b : Bool) → ((header bytes i).kind == sht_nobits) ≡ b → size_of (if b then Size (header bytes i).size else Bytes (content bytes i)) ≡ (header bytes i).size
    by true is = refl
    by false is = length_content bytes p i (loaded_low bytes i h) (held (header bytes i) (loads_right bytes p i h) is)

sect_right : (bytes : List ℕ) → Passed bytes → (i : ℕ) → is_loaded bytes i ≡ true → IsSect (sect_of bytes i)
unfolding sect_of
sect_right bytes p i h =
    let low = loaded_low bytes i h in
    let can = loads_right bytes p i h in
    let size = size_right bytes p i h in
    record {
      name = name_is (section_names bytes) (header bytes i).name (unless_holds (has_name (section_names bytes) (header bytes i).name) (BadSection (header_offset bytes i)) (p.names i low));
      loaded = loaded_flag bytes i h;
      plain = can.plain;
      align = align_right (header bytes i).align can.align;
      size = let small = can.size in omega arith;
    }

sects_right : (bytes : List ℕ) → Passed bytes → (i : ℕ) → All IsSect (sects_at bytes i)
sects_right bytes p i = by (is_loaded bytes i) refl
  where
    by : (b : Bool) → is_loaded bytes i ≡ b → All IsSect (if b then sect_of bytes i ∷ [] else [])
    by true is = All-cons IsSect (sect_of bytes i) [] (sect_right bytes p i is) (All-nil IsSect)
    by false is = All-nil IsSect

-- the sections of the module
abbrev sections_of : List ℕ → List Sect
sections_of bytes = gathered 0 (header_count bytes) (sects_at bytes)

one_sect : (bytes : List ℕ) (i : ℕ) → length (sects_at bytes i) ≡ one_loaded bytes i
one_sect bytes i = by (is_loaded bytes i)
  where
    by : (b : Bool) → length (if b then sect_of bytes i ∷ [] else []) ≡ (if b then 1 else 0)
    by true = refl
    by false = refl

length_sections : (bytes : List ℕ) → length (sections_of bytes) ≡ total (header_count bytes) (one_loaded bytes)
length_sections bytes = length_all (header_count bytes) (sects_at bytes) (one_loaded bytes) (one_sect bytes)

counts_one : (bytes : List ℕ) (i : ℕ) → is_loaded bytes i ≡ true → one_loaded bytes i ≡ 1
counts_one bytes i h = ap (λ b. if b then 1 else 0) h

number_below : (bytes : List ℕ) (i : ℕ) → is_loaded bytes i ≡ true → loaded_before bytes i < length (sections_of bytes)
unfolding loaded_before
number_below bytes i h =
    let all = length_sections bytes in
    let low = total_below i (header_count bytes) (one_loaded bytes) (loaded_low bytes i h) (counts_one bytes i h) in
    omega arith

section_at : (bytes : List ℕ) (i : ℕ) (d : Sect) → is_loaded bytes i ≡ true → get_or (sections_of bytes) (loaded_before bytes i) d ≡ sect_of bytes i
unfolding loaded_before
section_at bytes i d h =
    item_at i (header_count bytes) (sects_at bytes) (one_loaded bytes) (sect_of bytes i) d (one_sect bytes) (loaded_low bytes i h) (ap (λ b. if b then sect_of bytes i ∷ [] else []) h)

few_headers : (bytes : List ℕ) → Passed bytes → header_count bytes ≤ most_section_headers
few_headers bytes p =
    let a = unless (half bytes e_shentsize == shdr_bytes) (BadSection e_shentsize) in
    let b = unless (not (header_count bytes == 0)) (BadSection e_shnum) in
    let c = unless (nat_lt (half bytes e_shstrndx) (header_count bytes)) (BadSection e_shstrndx) in
    let d = unless (nat_le (header_count bytes) most_section_headers) (TooMany e_shnum) in
    let e = unless (nat_le (header_offset bytes (header_count bytes)) (length bytes)) (Short e_shoff) in
    let t = first_holds d e (rest_holds c (d and_then e) (rest_holds b (c and_then d and_then e) (rest_holds a (b and_then c and_then d and_then e) p.headers))) in
    at_most (header_count bytes) most_section_headers (unless_holds (nat_le (header_count bytes) most_section_headers) (TooMany e_shnum) t)

few_sections : (bytes : List ℕ) → Passed bytes → length (sections_of bytes) ≤ most_section_headers
few_sections bytes p =
    let all = length_sections bytes in
    let few = few_headers bytes p in
    let less' = total_few (header_count bytes) (one_loaded bytes) (λ i. by (is_loaded bytes i)) in
    omega arith
  where
    by : (b : Bool) → (if b then 1 else 0) ≤ 1
    by true = omega arith
    by false = omega arith

-- ---- symbols
-- what the rule of symbols says about an entry
record RightSymbol (bytes : List ℕ) (e : SymbolEntry) : Type 0 where
  name : has_name (symbol_names bytes) e.name ≡ true
  binding : st_bind e.info ≤ stb_weak
  kind : st_type e.info ≤ stt_common
  place : has_place bytes e ≡ true
  inside : lies_inside bytes e ≡ true
  common : is_right_common e ≡ true

right_symbol : (bytes : List ℕ) (e : SymbolEntry) → is_right_symbol bytes e ≡ true → RightSymbol bytes e
unfolding is_right_symbol
right_symbol bytes e h =
    let a = has_name (symbol_names bytes) e.name in
    let b = nat_le (st_bind e.info) stb_weak in
    let c = nat_le (st_type e.info) stt_common in
    let d = has_place bytes e in
    let f = lies_inside bytes e in
    let g = is_right_common e in
    let t1 = right_true a (b && (c && (d && (f && g)))) h in
    let t2 = right_true b (c && (d && (f && g))) t1 in
    let t3 = right_true c (d && (f && g)) t2 in
    let t4 = right_true d (f && g) t3 in
    record {
      name = left_true a (b && (c && (d && (f && g)))) h;
      binding = at_most (st_bind e.info) stb_weak (left_true b (c && (d && (f && g))) t1);
      kind = at_most (st_type e.info) stt_common (left_true c (d && (f && g)) t2);
      place = left_true d (f && g) t3;
      inside = left_true f g t4;
      common = right_true f g t4;
    }

value_low : (bytes : List ℕ) (e : SymbolEntry) → (e.section == shn_undef) ≡ false → is_loaded bytes e.section ≡ true → lies_inside bytes e ≡ true → e.value ≤ (header bytes e.section).size
unfolding lies_inside
value_low bytes e some loaded h = at_most e.value (header bytes e.section).size (by (e.section == shn_undef) (is_loaded bytes e.section) some loaded h)
  where
    by : (a b : Bool) → a ≡ false → b ≡ true → (a || (not b || nat_le e.value (header bytes e.section).size)) ≡ true → nat_le e.value (header bytes e.section).size ≡ true
    by true b q is h = cc
    by false true q is h = h
    by false false q is h = cc

record RightCommon (e : SymbolEntry) : Type 0 where
  align : is_alignment e.value ≡ true
  size : e.size ≤ most_section_bytes

right_common : (e : SymbolEntry) → (e.section == shn_common) ≡ true → is_right_common e ≡ true → RightCommon e
unfolding is_right_common
right_common e is h =
    let both = by (e.section == shn_common) is h in
    record { align = left_true (is_alignment e.value) (nat_le e.size most_section_bytes) both; size = at_most e.size most_section_bytes (right_true (is_alignment e.value) (nat_le e.size most_section_bytes) both) }
  where
    by : (b : Bool) → b ≡ true → (not b || (is_alignment e.value && nat_le e.size most_section_bytes)) ≡ true → (is_alignment e.value && nat_le e.size most_section_bytes) ≡ true
    by true is h = h
    by false is h = cc

placed_inside : (bytes : List ℕ) → Passed bytes → (e : SymbolEntry) → RightSymbol bytes e → (e.section == shn_undef) ≡ false → is_loaded bytes e.section ≡ true → IsPlaced (sections_of bytes) (Section (loaded_before bytes e.section)) e.value e.size
unfolding sect_of
placed_inside bytes p e r some loaded = (
  number_below bytes e.section loaded,
  λ d.
      let low = value_low bytes e some loaded r.inside in
      let size = size_right bytes p e.section loaded in
      let at = ap (λ s. size_of s.body) (section_at bytes e.section d loaded) in
      omega arith,
)

placed : (bytes : List ℕ) → Passed bytes → (e : SymbolEntry) → RightSymbol bytes e → IsPlaced (sections_of bytes) (place_of bytes e.section) e.value e.size
unfolding place_of
placed bytes p e r = by (e.section == shn_undef) refl (e.section == shn_abs) (e.section == shn_common) refl (is_loaded bytes e.section) refl
  where
    by : (u : Bool) → (e.section == shn_undef) ≡ u → (a c : Bool) → (e.section == shn_common) ≡ c → (l : Bool) → is_loaded bytes e.section ≡ l → IsPlaced (sections_of bytes) (if u then Undefined else if a then Absolute else if c then Common else if l then Section (loaded_before bytes e.section) else Elsewhere) e.value e.size
    by true us a c cs l ls = tt
    by false us true c cs l ls = tt
    by false us false true cs l ls = let k = right_common e cs r.common in (k.align, k.size)
    by false us false false cs true ls = placed_inside bytes p e r us ls
    by false us false false cs false ls = tt

right_at : (bytes : List ℕ) → Passed bytes → (k : ℕ) → k < symbol_count bytes - 1 → RightSymbol bytes (symbol bytes (1 + k))
right_at bytes p k l =
    right_symbol bytes (symbol bytes (1 + k))
    (unless_holds (is_right_symbol bytes (symbol bytes (1 + k))) (BadSymbol (symbol_offset bytes (1 + k))) (each_holds (symbol_count bytes - 1) 1 k (symbol_rule bytes) p.symbols l))

sym_right : (bytes : List ℕ) → Passed bytes → (k : ℕ) → k < symbol_count bytes - 1 → IsSym (sections_of bytes) (sym_of bytes (1 + k))
unfolding sym_of
sym_right bytes p k l =
    let e = symbol bytes (1 + k) in
    let r = right_at bytes p k l in
    record { name = name_is (symbol_names bytes) e.name r.name; binding = r.binding; kind = r.kind; place = placed bytes p e r }

-- the symbols of the module
abbrev symbols_of : List ℕ → List Sym
symbols_of bytes = gathered 1 (symbol_count bytes - 1) (syms_at bytes)

length_symbols : (bytes : List ℕ) → length (symbols_of bytes) ≡ symbol_count bytes - 1
length_symbols bytes = length_ones (symbol_count bytes - 1) 1 (sym_of bytes)

symtab_is : (bytes : List ℕ) → symtab bytes < header_count bytes → is_symtab bytes (symtab bytes) ≡ true
unfolding symtab
symtab_is bytes l = first_passes (header_count bytes) 0 (is_symtab bytes) (omega arith)

few_entries : (bytes : List ℕ) → Passed bytes → symbol_count bytes ≤ most_symbol_entries
unfolding symbol_count
few_entries bytes p = by (has_symtab bytes) refl
  where
    by : (b : Bool) → has_symtab bytes ≡ b → (if b then (header bytes (symtab bytes)).size / sym_bytes else 0) ≤ most_symbol_entries
    by false is = omega arith
    by true is =
        let l = less (symtab bytes) (header_count bytes) is in
        let i = symtab bytes in
        let a = unless (is_right_symtab bytes i) (BadSection (header_offset bytes i)) in
        let few = nat_le ((header bytes i).size / sym_bytes) most_symbol_entries in
        let b = unless few (TooMany (header_offset bytes i)) in
        let t = rest_holds a b (when_holds (is_symtab bytes i) (a and_then b) (symtab_is bytes l) (p.symtabs i l)) in
        at_most ((header bytes i).size / sym_bytes) most_symbol_entries (unless_holds few (TooMany (header_offset bytes i)) t)

-- ---- relocations
applied_loaded : (bytes : List ℕ) (i : ℕ) → is_applied bytes i ≡ true → is_loaded bytes (header bytes i).info ≡ true
unfolding is_applied
applied_loaded bytes i h = right_true ((header bytes i).kind == sht_rela) (is_loaded bytes (header bytes i).info) h

some_applied : (bytes : List ℕ) (i k : ℕ) → k < rela_count bytes i → is_applied bytes i ≡ true
unfolding rela_count
some_applied bytes i k l = by (is_applied bytes i) l
  where
    by : (a : Bool) → k < (if a then (header bytes i).size / rela_bytes else 0) → a ≡ true
    by true l = refl
    by false l = absurd (omega arith)

-- what the rule of relocations says about a relocation
record RightRelocation (bytes : List ℕ) (target : SectionHeader) (r : RelaEntry) : Type 0 where
  held : (target.kind == sht_nobits) ≡ false
  number : r_sym r.info < symbol_count bytes
  here : (r_sym r.info == 0 || not (is_elsewhere bytes (symbol bytes (r_sym r.info)).section)) ≡ true
  inside : r.offset + width (r_type r.info) ≤ target.size

right_relocation : (bytes : List ℕ) (target : SectionHeader) (r : RelaEntry) → is_right_relocation bytes target r ≡ true → RightRelocation bytes target r
unfolding is_right_relocation
right_relocation bytes target r h =
    let a = not (target.kind == sht_nobits) in
    let b = nat_lt (r_sym r.info) (symbol_count bytes) in
    let c = r_sym r.info == 0 || not (is_elsewhere bytes (symbol bytes (r_sym r.info)).section) in
    let d = nat_le (r.offset + width (r_type r.info)) target.size in
    let t1 = right_true a (b && (c && d)) h in
    let t2 = right_true b (c && d) t1 in
    record {
      held = not_false (target.kind == sht_nobits) (left_true a (b && (c && d)) h);
      number = less (r_sym r.info) (symbol_count bytes) (left_true b (c && d) t1);
      here = left_true c d t2;
      inside = at_most (r.offset + width (r_type r.info)) target.size (right_true c d t2);
    }

holds_bytes : (bytes : List ℕ) → Passed bytes → (i n : ℕ) → is_loaded bytes i ≡ true → ((header bytes i).kind == sht_nobits) ≡ false → n ≤ (header bytes i).size → HoldsBytes (body_of bytes i (header bytes i)) n
holds_bytes bytes p i n loaded off l = by ((header bytes i).kind == sht_nobits) off
  where
    by : (b : Bool) → b ≡ false → HoldsBytes (if b then Size (header bytes i).size else Bytes (content bytes i)) n
    by true q = cc
    by false q = let all = length_content bytes p i (loaded_low bytes i loaded) (held (header bytes i) (loads_right bytes p i loaded) off) in omega arith

-- a symbol is here if its section exists and isn't one that isn't loaded
is_here : (bytes : List ℕ) (e : SymbolEntry) → has_place bytes e ≡ true → is_elsewhere bytes e.section ≡ false → place_of bytes e.section ≢ Elsewhere
unfolding place_of has_place is_elsewhere
is_here bytes e place off = by (e.section == shn_undef) (e.section == shn_abs) (e.section == shn_common) (nat_lt e.section (header_count bytes)) (is_loaded bytes e.section) place off
  where
    by : (u a c n l : Bool) → (n || (a || c)) ≡ true → (not u && (n && not l)) ≡ false → (if u then Undefined else if a then Absolute else if c then Common else if l then Section (loaded_before bytes e.section) else Elsewhere) ≢ Elsewhere
    by true a c n l place off = λ q. cc
    by false true c n l place off = λ q. cc
    by false false true n l place off = λ q. cc
    by false false false n true place off = λ q. cc
    by false false false true false place off = λ q. cc
    by false false false false false place off = λ q. cc

symbol_here : (bytes : List ℕ) → Passed bytes → (k : ℕ) → k < symbol_count bytes → (k == 0 || not (is_elsewhere bytes (symbol bytes k).section)) ≡ true → (d : Sym) → 0 < k → (get_or (symbols_of bytes) (k - 1) d).place ≢ Elsewhere
unfolding sym_of
symbol_here bytes p k l here d pos =
    let e : 1 + (k - 1) ≡ k = omega arith in
    let at : get_or (symbols_of bytes) (k - 1) d ≡ sym_of bytes (1 + (k - 1)) = one_at (symbol_count bytes - 1) 1 (k - 1) (sym_of bytes) d (omega arith) in
    let it = at ∙ ap (sym_of bytes) e in
    let r : RightSymbol bytes (symbol bytes k) = subst (λ j. RightSymbol bytes (symbol bytes j)) e (right_at bytes p (k - 1) (omega arith)) in
    let off = not_false (is_elsewhere bytes (symbol bytes k).section) (by (k == 0) (not_zero k pos) here) in
    λ q. is_here bytes (symbol bytes k) r.place off (sym (ap (λ s. s.place) it) ∙ q)
  where
    not_zero : (k : ℕ) → 0 < k → (k == 0) ≡ false
    not_zero zero l = absurd (omega arith)
    not_zero (suc k) l = grind (arith, nat_tests)

    by : (z : Bool) → z ≡ false → (z || not (is_elsewhere bytes (symbol bytes k).section)) ≡ true → not (is_elsewhere bytes (symbol bytes k).section) ≡ true
    by true off h = cc
    by false off h = h

rel_right : (bytes : List ℕ) → Passed bytes → (i k : ℕ) → i < header_count bytes → k < rela_count bytes i → IsRel (sections_of bytes) (symbols_of bytes) (rel_of bytes i k)
unfolding rel_of sect_of
rel_right bytes p i k low l =
    let r = relocation bytes i k in
    let j = (header bytes i).info in
    let loaded = applied_loaded bytes i (some_applied bytes i k l) in
    let rule = all_hold (rela_count bytes i) k (relocation_rule bytes i) (p.relocations i low) l in
    let right = right_relocation bytes (header bytes j) r (unless_holds (is_right_relocation bytes (header bytes j) r) (BadReloc (rela_offset bytes i k)) rule) in
    let symbols = length_symbols bytes in
    let below = right.number in
    record {
      section = number_below bytes j loaded;
      inside = λ d. subst (λ s. HoldsBytes s.body (r.offset + width (r_type r.info))) (sym (section_at bytes j d loaded)) (holds_bytes bytes p j (r.offset + width (r_type r.info)) loaded right.held right.inside);
      symbol = omega arith;
      here = symbol_here bytes p (r_sym r.info) right.number right.here;
    }

rels_right : (bytes : List ℕ) → Passed bytes → (i : ℕ) → i < header_count bytes → All (IsRel (sections_of bytes) (symbols_of bytes)) (rels_at bytes i)
unfolding rels_at
rels_right bytes p i low =
    let P : Rel → Type 0 = IsRel (sections_of bytes) (symbols_of bytes) in
    all_gathered P (rela_count bytes i) 0 (λ k. rel_of bytes i k ∷ [])
    (λ k l. All-cons P (rel_of bytes i (0 + k)) [] (rel_right bytes p i (0 + k) low (omega arith)) (All-nil P))

one_table : (bytes : List ℕ) (i : ℕ) → length (rels_at bytes i) ≡ rela_count bytes i
unfolding rels_at
one_table bytes i = length_ones (rela_count bytes i) 0 (rel_of bytes i)

or_left : (a b : Bool) → a ≡ true → (a || b) ≡ true
or_left true b h = refl
or_left false b h = cc

is_table : (bytes : List ℕ) (i : ℕ) → is_applied bytes i ≡ true → ((header bytes i).kind == sht_rela || (header bytes i).kind == sht_rel) ≡ true
unfolding is_applied
is_table bytes i h = or_left ((header bytes i).kind == sht_rela) ((header bytes i).kind == sht_rel) (left_true ((header bytes i).kind == sht_rela) (is_loaded bytes (header bytes i).info) h)

few_sofar : (bytes : List ℕ) → Passed bytes → (i : ℕ) → i < header_count bytes → 0 < rela_count bytes i → total (i + 1) (rela_count bytes) ≤ most_relocations
few_sofar bytes p i low pos =
    let applied = some_applied bytes i 0 pos in
    let loaded = is_loaded bytes (header bytes i).info in
    let few = nat_le (total (i + 1) (rela_count bytes)) most_relocations in
    let a = unless (nat_lt (header bytes i).info (header_count bytes)) (BadSection (header_offset bytes i)) in
    let b = unless (is_right_table bytes i) (BadSection (header_offset bytes i)) in
    let c = unless few (TooMany (header_offset bytes i)) in
    let t1 = when_holds ((header bytes i).kind == sht_rela || (header bytes i).kind == sht_rel) (a and_then when loaded (b and_then c)) (is_table bytes i applied) (p.tables i low) in
    let t2 = when_holds loaded (b and_then c) (applied_loaded bytes i applied) (rest_holds a (when loaded (b and_then c)) t1) in
    at_most (total (i + 1) (rela_count bytes)) most_relocations (unless_holds few (TooMany (header_offset bytes i)) (rest_holds b c t2))

-- ---- the module
held_right : (bytes : List ℕ) → Passed bytes → IsModule (module_at bytes)
unfolding module_at
held_right bytes p =
    let n = header_count bytes in
    let S : Sect → Type 0 = IsSect in
    let Y : Sym → Type 0 = IsSym (sections_of bytes) in
    let R : Rel → Type 0 = IsRel (sections_of bytes) (symbols_of bytes) in
    let symbols = length_symbols bytes in
    let entries = few_entries bytes p in
    let relocs = length_all n (rels_at bytes) (rela_count bytes) (one_table bytes) in
    let bound = total_bound n most_relocations (rela_count bytes) (few_sofar bytes p) in
    record {
      few_sections = few_sections bytes p;
      few_symbols = omega arith;
      few_relocs = omega arith;
      sections = all_gathered S n 0 (sects_at bytes) (λ i l. sects_right bytes p (0 + i));
      symbols = all_gathered Y (symbol_count bytes - 1) 1 (syms_at bytes) (λ k l. All-cons Y (sym_of bytes (1 + k)) [] (sym_right bytes p k l) (All-nil Y));
      relocs = all_gathered R n 0 (rels_at bytes) (λ i l. rels_right bytes p (0 + i) (omega arith));
    }

pub module_is : (bytes : List ℕ) (m : Module) → checked bytes ≡ Ok tt → m ≡ module_at bytes → IsModule m
module_is bytes m h is = subst IsModule (sym is) (held_right bytes (passed bytes h))

pub holds_module : HoldsModule
holds_module bytes m h = module_is bytes m h.passes h.holds
