-- What a built file's ELF header and tables say.
use Rattle.std.proofs.Common.{◌≡◌, ℕ, zero, suc, ◌+◌, ◌*◌, ◌/◌, ◌<◌, ◌≤◌, ◌^◌, List, [], ◌∷◌, length, get_or, refl, sym, ◌∙◌, ap, subst, arith, length-append, Bool, true, false, nat_lt}
use Rattle.std.specs.Prelude.{◌==◌, ◌&&◌, not, if◌then◌else◌, bit_and}
use Rattle.std.specs.List.{All, flat_map}
use Rattle.elf_read.specs.declared.module.Body.{Body}
use Rattle.elf_read.specs.declared.module.Body.TheVariants.{Bytes, Size}
use Rattle.elf_read.specs.declared.module.Sect.{Sect}
use Rattle.elf_read.specs.declared.module.Sym.{Sym}
use Rattle.elf_read.specs.declared.module.Rel.{Rel}
use Rattle.elf_read.specs.declared.module.SymPlace.TheVariants.{Undefined}
use Rattle.elf_read.specs.declared.module.Module.{Module}
use Rattle.elf_read.specs.Places.{half, word, part}
use Rattle.elf_read.specs.Numbered.{first_from}
use Rattle.elf_read.specs.Tables.{header, content, is_loaded, has_name, section_names, symtab, has_symtab, symbol_count, symbol, is_elsewhere}
use Rattle.elf_build.specs.Entries.{symbol_bytes, sym_entry, kind_of}
use Rattle.elf_build.specs.File.{tables_of, header_total, contents_of, symbols_of, relocs_of, strings_of, names_of, table_name, symbols_at, relocs_at, strings_at, names_at, headers_at, count_of, null_header, symtab_header, strings_header, locals_end, locals_from, sect_name, sym_name, symbols_from, fixed_names, rel_bytes}
use Rattle.elf_build.specs.Buildable.{Buildable}
use Rattle.elf_build.proofs.Good.{GoodRel, good_sects, good_syms, good_rels}
use Rattle.elf_build.proofs.TableLemmas.{flat_tables, are_tables}
use Rattle.elf_build.proofs.Stands.{Stands, stands_whole, stands_suffix, part_is}
use Rattle.elf_build.proofs.EntryLemmas.{HeaderFits, header_is, length_symbol}
use Rattle.elf_build.proofs.Spread.{Parts, Headers, headers_place, headers_count, names_number}
use Rattle.elf_build.proofs.Names.{below, then_branch}
use Rattle.elf_build.proofs.Sections.{SectAt, AllAt, sects_are, at_number}
use Rattle.elf_build.proofs.Symbols.{Loads, SymAt, syms_are}
use Rattle.elf_build.proofs.Relocs.{TableAt, tables_are}
use Rattle.elf_build.proofs.TableNames.{table_stands, table_named}
use Rattle.elf_build.proofs.Splits.{first_is}

pub record Known (bytes : List ℕ) (m : Module) : Type 0 where
  pub place_is : word bytes 32 ≡ headers_at m
  pub count_is : half bytes 48 ≡ header_total m
  pub number_is : half bytes 50 ≡ count_of m + 3
  pub null_is : header bytes 0 ≡ null_header
  pub symtab_is : header bytes (count_of m + 1) ≡ symtab_header (symbols_at m) (length (symbols_of m.symbols)) (count_of m + 2) (locals_end m.symbols)
  pub strings_is : header bytes (count_of m + 2) ≡ strings_header 9 (strings_at m) (length (strings_of m.symbols))
  pub names_is : header bytes (count_of m + 3) ≡ strings_header 17 (names_at m) (length (names_of m.sections))
  pub section_names_are : section_names bytes ≡ names_of m.sections
  pub strings_are : content bytes (count_of m + 2) ≡ strings_of m.symbols

locals_by : (k n best : ℕ) (b : Bool) → best ≤ k → (if b then k + 1 else best) ≤ k + 1
locals_by k n best true h = omega arith
locals_by k n best false h = omega arith

locals_low : (best k : ℕ) (ss : List Sym) → best ≤ k → locals_from best k ss ≤ k + length ss
locals_low best k [] h = omega arith
locals_low best k (s ∷ ss) h = let a = locals_low (if s.binding == 0 then k + 1 else best) (k + 1) ss (locals_by k 0 best (s.binding == 0) h) in omega arith

null_fits : HeaderFits null_header
unfolding null_header
null_fits = record { name = omega arith; kind = omega arith; flags = omega arith; offset = omega arith; size = omega arith; link = omega arith; info = omega arith; align = omega arith; entry_size = omega arith }

strings_fit : (name at size : ℕ) → name < 2 ^ 32 → at < 2 ^ 32 → size < 2 ^ 32 → HeaderFits (strings_header name at size)
unfolding strings_header
strings_fit name at size h1 h2 h3 = record { name = omega arith; kind = omega arith; flags = omega arith; offset = omega arith; size = omega arith; link = omega arith; info = omega arith; align = omega arith; entry_size = omega arith }

symtab_fits_in : (at size link info : ℕ) → at < 2 ^ 32 → size < 2 ^ 32 → link < 2 ^ 32 → info < 2 ^ 32 → HeaderFits (symtab_header at size link info)
unfolding symtab_header
symtab_fits_in at size link info h1 h2 h3 h4 = record { name = omega arith; kind = omega arith; flags = omega arith; offset = omega arith; size = omega arith; link = omega arith; info = omega arith; align = omega arith; entry_size = omega arith }

content_is : (bytes : List ℕ) (i name at : ℕ) (xs : List ℕ) → header bytes i ≡ strings_header name at (length xs) → Stands bytes at xs → content bytes i ≡ xs
unfolding content strings_header
content_is bytes i name at xs e s = ap (λ h. part bytes h.offset h.size) e ∙ part_is bytes at (length xs) xs s refl

pub known : (bytes : List ℕ) (m : Module) → Parts bytes m → Headers bytes m → Buildable m → Known bytes m
known bytes m p h b =
    let n = count_of m in
    let few = b.few_headers in
    let few_symbols = b.sound.few_symbols in
    let short = p.short in
    let w1 = p.symbols.within in
    let w2 = p.strings.within in
    let w3 = p.names.within in
    let w4 = p.headers.within in
    let locals = locals_low 1 1 m.symbols (omega arith) in
    let place = headers_place bytes (headers_at m) (header_total m) (n + 3) p.header_fits (omega arith) in
    let number = names_number bytes (headers_at m) (header_total m) (n + 3) p.header_fits (omega arith) in
    let names = header_is bytes (headers_at m) (n + 3) (strings_header 17 (names_at m) (length (names_of m.sections))) place h.names (strings_fit 17 (names_at m) (length (names_of m.sections)) (omega arith) (omega arith) (omega arith)) in
    let strings = header_is bytes (headers_at m) (n + 2) (strings_header 9 (strings_at m) (length (strings_of m.symbols))) place h.strings (strings_fit 9 (strings_at m) (length (strings_of m.symbols)) (omega arith) (omega arith) (omega arith)) in
    record {
      place_is = place;
      count_is = headers_count bytes (headers_at m) (header_total m) (n + 3) p.header_fits (omega arith);
      number_is = number;
      null_is = header_is bytes (headers_at m) 0 null_header place h.null null_fits;
      symtab_is = header_is bytes (headers_at m) (n + 1) (symtab_header (symbols_at m) (length (symbols_of m.symbols)) (n + 2) (locals_end m.symbols)) place h.symtab
          (symtab_fits_in (symbols_at m) (length (symbols_of m.symbols)) (n + 2) (locals_end m.symbols) (omega arith) (omega arith) (omega arith) (omega arith));
      strings_is = strings;
      names_is = names;
      section_names_are = ap (content bytes) number ∙ content_is bytes (n + 3) 17 (names_at m) (names_of m.sections) names p.names;
      strings_are = content_is bytes (n + 2) 9 (strings_at m) (strings_of m.symbols) strings p.strings;
    }

-- ---- sections

pub sects_held : (bytes : List ℕ) (m : Module) → Parts bytes m → Headers bytes m → Known bytes m → Buildable m → AllAt (SectAt bytes) 1 m.sections
unfolding names_of fixed_names contents_of
sects_held bytes m p h k b =
    let few = b.few_headers in
    let short = p.short in
    let w = p.names.within in
    sects_are bytes (names_of m.sections) (headers_at m) (header_total m) 1 27 52 m.sections
    (record { place_is = k.place_is; count_is = k.count_is; names_is = k.section_names_are; short = short; names_short = omega arith })
    (omega arith) h.sects
    (stands_suffix (names_of m.sections) 0 27 fixed_names (flat_map sect_name m.sections) (stands_whole (names_of m.sections)) refl)
    p.contents (good_sects m b)

and_false : (a : Bool) → (a && false) ≡ false
and_false true = refl
and_false false = refl

pub not_loaded : (bytes : List ℕ) (i : ℕ) → (bit_and (header bytes i).flags 2 == 0) ≡ true → is_loaded bytes i ≡ false
unfolding is_loaded
not_loaded bytes i h = ap (λ b. nat_lt i (half bytes 48) && not b) h ∙ and_false (nat_lt i (half bytes 48))

pub null_flags : (bytes : List ℕ) (m : Module) → Known bytes m → (bit_and (header bytes 0).flags 2 == 0) ≡ true
unfolding null_header
null_flags bytes m k = ap (λ h. bit_and h.flags 2 == 0) k.null_is

pub sect_at : (bytes : List ℕ) (m : Module) → AllAt (SectAt bytes) 1 m.sections → (k : ℕ) → k < length m.sections → (d : Sect) → SectAt bytes (suc k) (get_or m.sections k d)
sect_at bytes m all k l d = let e : 1 + k ≡ suc k = omega arith in subst (λ i. SectAt bytes i (get_or m.sections k d)) e (at_number (SectAt bytes) 1 k m.sections d all l)

pub no_sect : Sect
no_sect = record { name = []; flags = 0; align = 0; body = Size 0 }

pub loads_held : (bytes : List ℕ) (m : Module) → Known bytes m → Buildable m → AllAt (SectAt bytes) 1 m.sections → Loads bytes m.sections
loads_held bytes m k b all =
    let few = b.few_headers in
    let count = k.count_is in
    record {
      few = omega arith;
      count = omega arith;
      low = omega arith;
      none = not_loaded bytes 0 (null_flags bytes m k);
      loaded = λ i l. (sect_at bytes m all i l no_sect).loaded;
      size = λ i l d. (sect_at bytes m all i l d).size;
    }

-- ---- the symbol table

kind_not : (b : Body) → (kind_of b == 2) ≡ false
kind_not (Bytes bs) = refl
kind_not (Size n) = refl

before_table : (bytes : List ℕ) (m : Module) → Known bytes m → AllAt (SectAt bytes) 1 m.sections → (j : ℕ) → j < count_of m + 1 → ((header bytes (0 + j)).kind == 2) ≡ false
unfolding null_header
before_table bytes m k all zero l = ap (λ h. h.kind == 2) k.null_is
before_table bytes m k all (suc i) l =
    let e : 0 + suc i ≡ suc i = omega arith in
    ap (λ x. (header bytes x).kind == 2) e
    ∙ (ap (λ x. x == 2) (sect_at bytes m all i (omega arith) no_sect).kind
    ∙ kind_not (get_or m.sections i no_sect).body)

pub table_held : (bytes : List ℕ) (m : Module) → Known bytes m → AllAt (SectAt bytes) 1 m.sections → symtab bytes ≡ count_of m + 1
unfolding symtab symtab_header
table_held bytes m k all =
    let e : 0 + (count_of m + 1) ≡ count_of m + 1 = omega arith in
    ap (λ c. first_from 0 c (λ i. (header bytes i).kind == 2)) k.count_is
    ∙ (first_is 0 (header_total m) (count_of m + 1) (λ i. (header bytes i).kind == 2) (omega arith) (before_table bytes m k all)
    (ap (λ x. (header bytes x).kind == 2) e ∙ ap (λ h. h.kind == 2) k.symtab_is)
    ∙ e)

pub table_there : (bytes : List ℕ) (m : Module) → Known bytes m → symtab bytes ≡ count_of m + 1 → has_symtab bytes ≡ true
table_there bytes m k t = let c = k.count_is in below (symtab bytes) (half bytes 48) (omega arith)

length_from : (name : ℕ) (ss : List Sym) → length (symbols_from name ss) ≡ 16 * length ss
length_from name [] = refl
length_from name (s ∷ ss) =
    let a = length_symbol (sym_entry name s) in
    let b = length_from (name + length s.name + 1) ss in
    let c = length-append (symbol_bytes (sym_entry name s)) (symbols_from (name + length s.name + 1) ss) in
    omega arith

pub length_symbols : (ss : List Sym) → length (symbols_of ss) ≡ 16 * suc (length ss)
unfolding symbols_of
length_symbols ss =
    let a = length_symbol (record { name = 0; value = 0; size = 0; info = 0; section = 0 }) in
    let b = length_from 1 ss in
    let c = length-append (symbol_bytes (record { name = 0; value = 0; size = 0; info = 0; section = 0 })) (symbols_from 1 ss) in
    omega arith

pub count_held : (bytes : List ℕ) (m : Module) → Known bytes m → symtab bytes ≡ count_of m + 1 → has_symtab bytes ≡ true → symbol_count bytes ≡ suc (length m.symbols)
unfolding symbol_count symtab_header
count_held bytes m k t there =
    then_branch (has_symtab bytes) ((header bytes (symtab bytes)).size / 16) 0 there
    ∙ (ap (λ i. (header bytes i).size / 16) t
    ∙ (ap (λ h. h.size / 16) k.symtab_is
    ∙ (ap (λ x. x / 16) (length_symbols m.symbols) ∙ sixteen (suc (length m.symbols)))))
  where
    sixteen : (n : ℕ) → (16 * n) / 16 ≡ n
    sixteen n = omega arith

pub syms_held : (bytes : List ℕ) (m : Module) → Parts bytes m → Known bytes m → Buildable m → Loads bytes m.sections → symtab bytes ≡ count_of m + 1 → AllAt (SymAt bytes) 1 m.symbols
unfolding symtab_header symbols_of strings_of
syms_held bytes m p k b loads t =
    let short = p.short in
    let w = p.strings.within in
    let none = symbol_bytes (record { name = 0; value = 0; size = 0; info = 0; section = 0 }) in
    let size = length_symbol (record { name = 0; value = 0; size = 0; info = 0; section = 0 }) in
    syms_are bytes (strings_of m.symbols) m.sections no_sect (symbols_at m) 1 1 m.symbols
    (record {
      table = ap (λ i. (header bytes i).offset) t ∙ ap (λ h. h.offset) k.symtab_is;
      strings_are = ap (λ i. content bytes (header bytes i).link) t ∙ (ap (λ h. content bytes h.link) k.symtab_is ∙ k.strings_are);
      short = omega arith;
      loads = loads;
    })
    (stands_suffix bytes (symbols_at m) (symbols_at m + 16 * 1) none (symbols_from 1 m.symbols) p.symbols (omega arith))
    (stands_suffix (strings_of m.symbols) 0 1 (0 ∷ []) (flat_map sym_name m.symbols) (stands_whole (strings_of m.symbols)) refl)
    (good_syms m b)

-- ---- relocations

pub relas_held : (bytes : List ℕ) (m : Module) → Parts bytes m → Headers bytes m → Known bytes m → Buildable m → AllAt (SectAt bytes) 1 m.sections → Loads bytes m.sections → symtab bytes ≡ count_of m + 1 → has_symtab bytes ≡ true → symbol_count bytes ≡ suc (length m.symbols) → AllAt (SymAt bytes) 1 m.symbols → AllAt (TableAt bytes) (count_of m + 4) (tables_of m.relocs)
unfolding relocs_of
relas_held bytes m p h k b all loads t there count syms =
    let few = b.few_headers in
    let short = p.short in
    let names = p.names.within in
    let flat = flat_tables m.relocs in
    tables_are bytes m.sections (headers_at m) (count_of m + 1) (length m.symbols) (count_of m + 4) (relocs_at m) (tables_of m.relocs)
    (record {
      place_is = k.place_is;
      loads = loads;
      short = p.short;
      kinds = λ i l d. (sect_at bytes m all i l d).kind;
      small = λ i l d. (b.sound.sections i d l).size;
      few_symbols = b.sound.few_symbols;
      count_is = count;
      stand = λ i l. sym_stands bytes m syms i l;
      table_is = t;
      table_there = there;
      table_low = omega arith;
      named = λ i l. ap (λ names. has_name names (table_name m.sections i)) k.section_names_are ∙ table_named m.sections i (good_sects m b) l;
      name_low = λ i l. let w = (table_stands m.sections i no_sect l).within in omega arith;
    })
    h.relas (subst (λ rs. Stands bytes (relocs_at m) (flat_map rel_bytes rs)) (sym flat) p.relocs)
    (subst (All (GoodRel m.sections (length m.symbols))) (sym flat) (good_rels m b)) (are_tables m.relocs) no_sect no_rel
  where
    no_rel : Rel
    no_rel = record { section = 0; offset = 0; kind = 0; symbol = 0; addend = 0 }

    no_sym : Sym
    no_sym = record { name = []; binding = 0; kind = 0; value = 0; size = 0; place = Undefined }

    sym_stands : (bytes : List ℕ) (m : Module) → AllAt (SymAt bytes) 1 m.symbols → (i : ℕ) → i < length m.symbols → is_elsewhere bytes (symbol bytes (suc i)).section ≡ false
    sym_stands bytes m all i l = let e : 1 + i ≡ suc i = omega arith in (subst (λ x. SymAt bytes x (get_or m.symbols i no_sym)) e (at_number (SymAt bytes) 1 i m.symbols no_sym all l)).stands
