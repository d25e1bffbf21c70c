-- The relocations of a built file.
use Rattle.std.proofs.Common.{◌≡◌, ℕ, zero, suc, ◌+◌, ◌*◌, ◌/◌, ◌%◌, ◌<◌, ◌≤◌, ◌^◌, List, [], ◌∷◌, ◌++◌, length, take, drop, get_or, refl, sym, ◌∙◌, ap, subst, arith, length-append, true, false, nat_le, nat_lt, Ok}
use Rattle.std.specs.Prelude.{◌==◌, ◌&&◌, ◌||◌, not, bit_and}
use Rattle.std.specs.List.{All, flat_map}
use Rattle.std.proofs.lemmas.List.{drop_at, take_at}
use Rattle.std.proofs.lemmas.List.Elements.{All-take, All-drop, All-same}
use Rattle.std.proofs.lemmas.Grind.{flat_map-append}
use Rattle.elf_read.specs.declared.error.ElfErr.TheVariants.{BadReloc, BadSection, Short}
use Rattle.elf_read.specs.declared.module.Body.{Body}
use Rattle.elf_read.specs.declared.module.Body.TheVariants.{Bytes, Size}
use Rattle.elf_read.specs.declared.module.Sect.{Sect}
use Rattle.elf_read.specs.declared.module.Rel.{Rel}
use Rattle.elf_read.specs.Places.{half, word, rela_at}
use Rattle.elf_read.specs.Rule.{unless, when, each}
use Rattle.elf_read.specs.Numbered.{total, gathered}
use Rattle.elf_read.specs.Rules.{has_content, content_rule, name_rule, is_right_relocation, relocation_rule, relocations_rule, is_right_table}
use Rattle.elf_read.specs.Tables.{header, header_offset, has_name, section_names, is_loaded, loaded_before, is_elsewhere, is_applied, rela_count, rela_offset, relocation, symbol, symbol_count, symtab, has_symtab, width}
use Rattle.elf_read.specs.Contents.{rel_of, rels_at}
use Rattle.elf_build.specs.Entries.{header_bytes, rel_entry, kind_of}
use Rattle.elf_read.specs.Modules.{size_of, HoldsBytes}
use Rattle.elf_build.specs.File.{RelocTable, rel_bytes, table_name, table_header, table_headers}
use Rattle.elf_build.proofs.Good.{GoodRel}
use Rattle.elf_build.proofs.TableLemmas.{relocs_in, IsRelocTable}
use Rattle.elf_build.proofs.Stands.{Stands, stands_prefix, stands_suffix}
use Rattle.elf_build.proofs.EntryLemmas.{header_is, relocation_is, length_header, length_relocation}
use Rattle.elf_build.proofs.Names.{or_true, and_true, not_false, equals, below, at_most, then_branch, all_first, all_rest}
use Rattle.elf_build.proofs.Sections.{AllAt, gathered_are, each_are}
use Rattle.elf_build.proofs.Symbols.{Loads, number_loaded}

flat_length : (rs : List Rel) → length (flat_map rel_bytes rs) ≡ 12 * length rs
flat_length [] = refl
flat_length (r ∷ rs) = let a = length_relocation (rel_entry r) in let b = length-append (rel_bytes r) (flat_map rel_bytes rs) in let c = flat_length rs in omega arith

-- ---- one relocation

-- what is known of a file's sections and symbols
pub record RelReads (bytes : List ℕ) (place table : ℕ) (sections : List Sect) (symbols : ℕ) : Type 0 where
  pub place_is : word bytes 32 ≡ place
  pub loads : Loads bytes sections
  pub short : length bytes < 2 ^ 32
  pub kinds : (k : ℕ) → k < length sections → (d : Sect) → (header bytes (suc k)).kind ≡ kind_of (get_or sections k d).body
  pub small : (k : ℕ) → k < length sections → (d : Sect) → size_of (get_or sections k d).body ≤ 16777216
  pub few_symbols : symbols < 65536
  pub count_is : symbol_count bytes ≡ suc symbols
  pub stand : (k : ℕ) → k < symbols → is_elsewhere bytes (symbol bytes (suc k)).section ≡ false
  pub table_is : symtab bytes ≡ table
  pub table_there : has_symtab bytes ≡ true
  pub table_low : table < 4096
  pub named : (k : ℕ) → k < length sections → has_name (section_names bytes) (table_name sections k) ≡ true
  pub name_low : (k : ℕ) → k < length sections → table_name sections k < 2 ^ 32

pub record RelAt (bytes : List ℕ) (i q : ℕ) (r : Rel) : Type 0 where
  pub same : rel_of bytes i q ≡ r
  pub fits : relocation_rule bytes i q ≡ Ok tt

holds_size : (b : Body) (n : ℕ) → HoldsBytes b n → n ≤ size_of b
holds_size (Bytes bs) n h = h
holds_size (Size k) n h = absurd h

holds_kind : (b : Body) (n : ℕ) → HoldsBytes b n → (kind_of b == 8) ≡ false
holds_kind (Bytes bs) n h = refl
holds_kind (Size k) n h = absurd h

same_rel : (a r : Rel) → a.section ≡ r.section → a.offset ≡ r.offset → a.kind ≡ r.kind → a.symbol ≡ r.symbol → a.addend ≡ r.addend → a ≡ r
same_rel a r p1 p2 p3 p4 p5 = λ i. record { section = p1 i; offset = p2 i; kind = p3 i; symbol = p4 i; addend = p5 i }

high : (s k : ℕ) → k < 256 → (256 * s + k) / 256 ≡ s
high s k h = omega arith

low : (s k : ℕ) → k < 256 → (256 * s + k) % 256 ≡ k
low s k h = omega arith

entry_of : (bytes : List ℕ) (sections : List Sect) (place table symbols i q at : ℕ) (r : Rel) → RelReads bytes place table sections symbols → (header bytes i).offset ≡ at → Stands bytes (at + 12 * q) (rel_bytes r) → GoodRel sections symbols r → (d : Sect) → relocation bytes i q ≡ rel_entry r
unfolding relocation rel_entry
entry_of bytes sections place table symbols i q at r c e s good d =
    let b = (get_or sections r.section d).body in
    let within = holds_size b (r.offset + width r.kind) (good.within d) in
    let small = c.small r.section good.section d in
    let few = c.few_symbols in
    let y = good.symbol in
    let k = good.kind in
    ap (λ p. rela_at bytes (p + 12 * q)) e
    ∙ relocation_is bytes (at + 12 * q) (rel_entry r) s (record { offset = omega arith; info = omega arith; addend = good.addend })

rel_same : (bytes : List ℕ) (sections : List Sect) (place table symbols i q : ℕ) (r : Rel) → RelReads bytes place table sections symbols → (header bytes i).info ≡ suc r.section → relocation bytes i q ≡ rel_entry r → GoodRel sections symbols r → rel_of bytes i q ≡ r
unfolding rel_of rel_entry
rel_same bytes sections place table symbols i q r c e s good =
    same_rel (rel_of bytes i q) r
    (ap (loaded_before bytes) e ∙ number_loaded bytes sections c.loads r.section good.section)
    (ap (λ x. x.offset) s)
    (ap (λ x. x.info % 256) s ∙ low r.symbol r.kind good.kind)
    (ap (λ x. x.info / 256) s ∙ high r.symbol r.kind good.kind)
    (ap (λ x. x.addend) s)

symbol_ok : (bytes : List ℕ) (symbols n : ℕ) → ((k : ℕ) → k < symbols → is_elsewhere bytes (symbol bytes (suc k)).section ≡ false) → n ≤ symbols → (n == 0 || not (is_elsewhere bytes (symbol bytes n).section)) ≡ true
symbol_ok bytes symbols zero h l = refl
symbol_ok bytes symbols (suc k) h l = or_true (suc k == 0) (not (is_elsewhere bytes (symbol bytes (suc k)).section)) (not_false (is_elsewhere bytes (symbol bytes (suc k)).section) (h k (omega arith)))

right_by : (bytes : List ℕ) (sections : List Sect) (place table symbols : ℕ) (r : Rel) → RelReads bytes place table sections symbols → GoodRel sections symbols r → (d : Sect) → is_right_relocation bytes (header bytes (suc r.section)) (rel_entry r) ≡ true
unfolding is_right_relocation rel_entry
right_by bytes sections place table symbols r c good d =
    let b = (get_or sections r.section d).body in
    let target = header bytes (suc r.section) in
    let info = 256 * r.symbol + r.kind in
    let h = high r.symbol r.kind good.kind in
    let l = low r.symbol r.kind good.kind in
    let y = good.symbol in
    let n = c.count_is in
    let kind : (target.kind == 8) ≡ false = ap (λ k. k == 8) (c.kinds r.section good.section d) ∙ holds_kind b (r.offset + width r.kind) (good.within d) in
    let number : nat_lt (info / 256) (symbol_count bytes) ≡ true = below (info / 256) (symbol_count bytes) (omega arith) in
    let symbol_right : (info / 256 == 0 || not (is_elsewhere bytes (symbol bytes (info / 256)).section)) ≡ true = ap (λ k. k == 0 || not (is_elsewhere bytes (symbol bytes k).section)) h ∙ symbol_ok bytes symbols r.symbol c.stand y in
    let wide : width (info % 256) ≡ width r.kind = ap width l in
    let within = holds_size b (r.offset + width r.kind) (good.within d) in
    let size = c.loads.size r.section good.section d in
    let inside : nat_le (r.offset + width (info % 256)) target.size ≡ true = at_most (r.offset + width (info % 256)) target.size (omega arith) in
    and_true (not (target.kind == 8)) (nat_lt (info / 256) (symbol_count bytes) && ((info / 256 == 0 || not (is_elsewhere bytes (symbol bytes (info / 256)).section)) && nat_le (r.offset + width (info % 256)) target.size)) (not_false (target.kind == 8) kind)
    (and_true (nat_lt (info / 256) (symbol_count bytes)) ((info / 256 == 0 || not (is_elsewhere bytes (symbol bytes (info / 256)).section)) && nat_le (r.offset + width (info % 256)) target.size) number
    (and_true (info / 256 == 0 || not (is_elsewhere bytes (symbol bytes (info / 256)).section)) (nat_le (r.offset + width (info % 256)) target.size) symbol_right inside))

rel_is : (bytes : List ℕ) (sections : List Sect) (place table symbols i q at : ℕ) (r : Rel) → RelReads bytes place table sections symbols → (header bytes i).offset ≡ at → (header bytes i).info ≡ suc r.section → Stands bytes (at + 12 * q) (rel_bytes r) → GoodRel sections symbols r → (d : Sect) → RelAt bytes i q r
unfolding rel_entry
rel_is bytes sections place table symbols i q at r c o e s good d =
    let x = entry_of bytes sections place table symbols i q at r c o s good d in
    record {
      same = rel_same bytes sections place table symbols i q r c e x good;
      fits =
          ap (λ h. unless (is_right_relocation bytes (header bytes h) (relocation bytes i q)) (BadReloc (rela_offset bytes i q))) e
          ∙ (ap (λ z. unless (is_right_relocation bytes (header bytes (suc r.section)) z) (BadReloc (rela_offset bytes i q))) x
          ∙ ap (λ b. unless b (BadReloc (rela_offset bytes i q))) (right_by bytes sections place table symbols r c good d));
    }

-- ---- the relocations of one section

rels_are : (bytes : List ℕ) (sections : List Sect) (place table symbols i q at j : ℕ) (rs : List Rel) → RelReads bytes place table sections symbols → (header bytes i).offset ≡ at → (header bytes i).info ≡ j + 1 → Stands bytes (at + 12 * q) (flat_map rel_bytes rs) → All (GoodRel sections symbols) rs → All (λ r. r.section ≡ j) rs → (d : Sect) → AllAt (RelAt bytes i) q rs
rels_are bytes sections place table symbols i q at j [] c o e s good of d = tt
rels_are bytes sections place table symbols i q at j (r ∷ rs) c o e s good of d =
    let size = length_relocation (rel_entry r) in
    let next = stands_suffix bytes (at + 12 * q) (at + 12 * (q + 1)) (rel_bytes r) (flat_map rel_bytes rs) s (omega arith) in
    let same = all_first (λ x. x.section ≡ j) r rs of in
    let n : j + 1 ≡ suc r.section = omega arith in (
      rel_is bytes sections place table symbols i q at r c o (e ∙ n) (stands_prefix bytes (at + 12 * q) (rel_bytes r) (flat_map rel_bytes rs) s) (all_first (GoodRel sections symbols) r rs good) d,
      rels_are bytes sections place table symbols i (q + 1) at j rs c o e next (all_rest (GoodRel sections symbols) r rs good) (all_rest (λ x. x.section ≡ j) r rs of) d,
    )

-- ---- the tables of relocations

-- header number i is that of the relocations of one section
pub record TableAt (bytes : List ℕ) (i : ℕ) (g : RelocTable) : Type 0 where
  pub named : name_rule bytes i ≡ Ok tt
  pub kind : (header bytes i).kind ≡ 4
  pub not_loaded : (bit_and (header bytes i).flags 2 == 0) ≡ true
  pub target : is_loaded bytes (header bytes i).info ≡ true
  pub low : (header bytes i).info < half bytes 48
  pub form : is_right_table bytes i ≡ true
  pub count : rela_count bytes i ≡ length g.relocs
  pub content : content_rule bytes i ≡ Ok tt
  pub reads : rels_at bytes i ≡ g.relocs
  pub right : relocations_rule bytes i ≡ Ok tt

count_by : (bytes : List ℕ) (i n : ℕ) → (header bytes i).kind ≡ 4 → is_loaded bytes (header bytes i).info ≡ true → (header bytes i).size ≡ 12 * n → rela_count bytes i ≡ n
unfolding rela_count is_applied
count_by bytes i n k l s =
    let applied : ((header bytes i).kind == 4 && is_loaded bytes (header bytes i).info) ≡ true = and_true ((header bytes i).kind == 4) (is_loaded bytes (header bytes i).info) (equals (header bytes i).kind 4 k) l in
    then_branch ((header bytes i).kind == 4 && is_loaded bytes (header bytes i).info) ((header bytes i).size / 12) 0 applied
    ∙ (ap (λ x. x / 12) s ∙ twelve n)
  where
    twelve : (n : ℕ) → (12 * n) / 12 ≡ n
    twelve n = omega arith

form_by : (bytes : List ℕ) (i name table n at j : ℕ) → header bytes i ≡ table_header name table at j n → symtab bytes ≡ table → has_symtab bytes ≡ true → is_right_table bytes i ≡ true
unfolding is_right_table table_header
form_by bytes i name table n at j e t h =
    let whole : (12 * n) % 12 ≡ 0 = omega arith in
    ap (λ x. (x.kind == 4) && ((x.entry_size == 12) && ((x.size % 12 == 0) && (has_symtab bytes && (x.link == symtab bytes))))) e
    ∙ and_true ((12 * n) % 12 == 0) (has_symtab bytes && (table == symtab bytes)) (equals ((12 * n) % 12) 0 whole)
    (and_true (has_symtab bytes) (table == symtab bytes) h (equals table (symtab bytes) (sym t)))

content_by : (bytes : List ℕ) (i name table n at j : ℕ) → header bytes i ≡ table_header name table at j n → at + 12 * n ≤ length bytes → content_rule bytes i ≡ Ok tt
unfolding has_content table_header
content_by bytes i name table n at j e h =
    ap (λ x. when (has_content x) (unless (nat_le (x.offset + x.size) (length bytes)) (Short (header_offset bytes i + 16)))) e
    ∙ ap (λ b. unless b (Short (header_offset bytes i + 16))) (at_most (at + 12 * n) (length bytes) h)

named_by : (bytes : List ℕ) (i name : ℕ) → (header bytes i).name ≡ name → has_name (section_names bytes) name ≡ true → name_rule bytes i ≡ Ok tt
named_by bytes i name e h =
    ap (λ k. unless (has_name (section_names bytes) k) (BadSection (header_offset bytes i))) e
    ∙ ap (λ b. unless b (BadSection (header_offset bytes i))) h

reads_by : (bytes : List ℕ) (i n : ℕ) (rs : List Rel) → rela_count bytes i ≡ n → length rs ≡ n → AllAt (RelAt bytes i) 0 rs → rels_at bytes i ≡ rs
unfolding rels_at
reads_by bytes i n rs c l all =
    ap (λ k. gathered 0 k (λ q. rel_of bytes i q ∷ [])) (c ∙ sym l)
    ∙ gathered_are (RelAt bytes i) (λ q. rel_of bytes i q ∷ []) 0 rs (λ q r h. ap (λ x. x ∷ []) h.same) all

right_all : (bytes : List ℕ) (i n : ℕ) (rs : List Rel) → rela_count bytes i ≡ n → length rs ≡ n → AllAt (RelAt bytes i) 0 rs → relocations_rule bytes i ≡ Ok tt
right_all bytes i n rs c l all =
    ap (λ k. each 0 k (relocation_rule bytes i)) (c ∙ sym l)
    ∙ each_are (RelAt bytes i) (relocation_rule bytes i) 0 rs (λ q r h. h.fits) all

table_is_at : (bytes : List ℕ) (sections : List Sect) (place table symbols i at : ℕ) (t : RelocTable) → RelReads bytes place table sections symbols → Stands bytes (place + 40 * i) (header_bytes (table_header (table_name sections t.section) table at t.section (length t.relocs))) → Stands bytes at (flat_map rel_bytes t.relocs) → at + 12 * length t.relocs ≤ length bytes → t.section < length sections → All (GoodRel sections symbols) t.relocs → IsRelocTable t → (d : Sect) → TableAt bytes i t
unfolding table_header
table_is_at bytes sections place table symbols i at t c h s long l good of d =
    let j = t.section in
    let k = length t.relocs in
    let name = table_name sections j in
    let name_low = c.name_low j l in
    let short = c.short in
    let low_table = c.table_low in
    let few = c.loads.few in
    let many = c.loads.count in
    let e : header bytes i ≡ table_header name table at j k = header_is bytes place i (table_header name table at j k) c.place_is h
    (record { name = omega arith; kind = omega arith; flags = omega arith; offset = omega arith; size = omega arith; link = omega arith; info = omega arith; align = omega arith; entry_size = omega arith }) in
    let info : (header bytes i).info ≡ j + 1 = ap (λ x. x.info) e in
    let one : j + 1 ≡ suc j = omega arith in
    let target : is_loaded bytes (header bytes i).info ≡ true = ap (is_loaded bytes) (info ∙ one) ∙ c.loads.loaded j l in
    let kind : (header bytes i).kind ≡ 4 = ap (λ x. x.kind) e in
    let count = count_by bytes i k kind target (ap (λ x. x.size) e) in
    let start : at ≡ at + 12 * 0 = omega arith in
    let all = rels_are bytes sections place table symbols i 0 at j t.relocs c (ap (λ x. x.offset) e) info (subst (λ x. Stands bytes x (flat_map rel_bytes t.relocs)) start s) good of.same d in
    record {
      named = named_by bytes i name (ap (λ x. x.name) e) (c.named j l);
      kind = kind;
      not_loaded = ap (λ x. bit_and x.flags 2 == 0) e;
      target = target;
      low = omega arith;
      form = form_by bytes i name table k at j e c.table_is c.table_there;
      count = count;
      content = content_by bytes i name table k at j e long;
      reads = reads_by bytes i k t.relocs count refl all;
      right = right_all bytes i k t.relocs count refl all;
    }

section_low : (sections : List Sect) (symbols : ℕ) (t : RelocTable) (d : Rel) → IsRelocTable t → All (GoodRel sections symbols) t.relocs → t.section < length sections
section_low sections symbols t d of good =
    let first = (good 0 d of.some).section in
    let same = of.same 0 d of.some in
    omega arith

all_prefix : {X : Type 0} (P : X → Type 0) (xs ys : List X) → All P (xs ++ ys) → All P xs
all_prefix P xs ys h = All-same P xs (take (length xs) (xs ++ ys)) (sym (take_at xs ys (length xs) refl)) (All-take P (length xs) (xs ++ ys) h)

all_suffix : {X : Type 0} (P : X → Type 0) (xs ys : List X) → All P (xs ++ ys) → All P ys
all_suffix P xs ys h = All-same P ys (drop (length xs) (xs ++ ys)) (sym (drop_at xs ys (length xs) refl)) (All-drop P (length xs) (xs ++ ys) h)

flat_parts : (t : RelocTable) (ts : List RelocTable) → flat_map rel_bytes (t.relocs ++ flat_map relocs_in ts) ≡ flat_map rel_bytes t.relocs ++ flat_map rel_bytes (flat_map relocs_in ts)
flat_parts t ts = flat_map-append rel_bytes t.relocs (flat_map relocs_in ts)

pub tables_are : (bytes : List ℕ) (sections : List Sect) (place table symbols i at : ℕ) (ts : List RelocTable) → RelReads bytes place table sections symbols → Stands bytes (place + 40 * i) (table_headers sections table at ts) → Stands bytes at (flat_map rel_bytes (flat_map relocs_in ts)) → All (GoodRel sections symbols) (flat_map relocs_in ts) → All IsRelocTable ts → (d : Sect) (r : Rel) → AllAt (TableAt bytes) i ts
tables_are bytes sections place table symbols i at [] c h s good of d r = tt
tables_are bytes sections place table symbols i at (t ∷ ts) c h s good of d r =
    let here = header_bytes (table_header (table_name sections t.section) table at t.section (length t.relocs)) in
    let rest = table_headers sections table (at + 12 * length t.relocs) ts in
    let size = length_header (table_header (table_name sections t.section) table at t.section (length t.relocs)) in
    let next = stands_suffix bytes (place + 40 * i) (place + 40 * (i + 1)) here rest h (omega arith) in
    let long = flat_length t.relocs in
    let both = subst (Stands bytes at) (flat_parts t ts) s in
    let held = stands_prefix bytes at (flat_map rel_bytes t.relocs) (flat_map rel_bytes (flat_map relocs_in ts)) both in
    let after = stands_suffix bytes at (at + 12 * length t.relocs) (flat_map rel_bytes t.relocs) (flat_map rel_bytes (flat_map relocs_in ts)) both (omega arith) in
    let within = held.within in
    let one = all_first IsRelocTable t ts of in
    let good_here = all_prefix (GoodRel sections symbols) t.relocs (flat_map relocs_in ts) good in
    let good_rest = all_suffix (GoodRel sections symbols) t.relocs (flat_map relocs_in ts) good in (
      table_is_at bytes sections place table symbols i at t c (stands_prefix bytes (place + 40 * i) here rest h) held (omega arith) (section_low sections symbols t r one good_here) good_here one d,
      tables_are bytes sections place table symbols (i + 1) (at + 12 * length t.relocs) ts c next after good_rest (all_rest IsRelocTable t ts of) d r,
    )

-- ---- what follows

pub tables_gathered : (bytes : List ℕ) (i : ℕ) (gs : List RelocTable) → AllAt (TableAt bytes) i gs → gathered i (length gs) (rels_at bytes) ≡ flat_map relocs_in gs
tables_gathered bytes i [] all = refl
tables_gathered bytes i (g ∷ gs) (one, others) = ap (λ xs. xs ++ gathered (i + 1) (length gs) (rels_at bytes)) one.reads ∙ ap (λ xs. g.relocs ++ xs) (tables_gathered bytes (i + 1) gs others)

pub tables_total : (bytes : List ℕ) (i : ℕ) (gs : List RelocTable) → AllAt (TableAt bytes) i gs → total (i + length gs) (rela_count bytes) ≡ total i (rela_count bytes) + length (flat_map relocs_in gs)
tables_total bytes i [] all = let e : i + 0 ≡ i = omega arith in let f : total (i + 0) (rela_count bytes) ≡ total i (rela_count bytes) = ap (λ k. total k (rela_count bytes)) e in omega arith
tables_total bytes i (g ∷ gs) (one, others) =
    let more = tables_total bytes (i + 1) gs others in
    let e : i + suc (length gs) ≡ i + 1 + length gs = omega arith in
    let f : total (i + suc (length gs)) (rela_count bytes) ≡ total (i + 1 + length gs) (rela_count bytes) = ap (λ k. total k (rela_count bytes)) e in
    let t : i + 1 ≡ suc i = omega arith in
    let u : total (i + 1) (rela_count bytes) ≡ total i (rela_count bytes) + rela_count bytes i = ap (λ k. total k (rela_count bytes)) t in
    let v = one.count in
    let w = length-append g.relocs (flat_map relocs_in gs) in
    omega arith
