-- The places of the parts of a built file.
use Rattle.std.proofs.Common.{◌≡◌, ℕ, ◌+◌, ◌*◌, ◌<◌, ◌^◌, List, [], ◌∷◌, ◌++◌, length, drop, refl, subst, arith, length-append}
use Rattle.elf_read.specs.declared.module.Sect.{Sect}
use Rattle.elf_read.specs.declared.module.Module.{Module}
use Rattle.elf_read.specs.Places.{half, word}
use Rattle.elf_build.specs.Entries.{header_bytes, sect_header}
use Rattle.elf_build.specs.File.{tables_of, header_total, contents_of, symbols_of, relocs_of, strings_of, names_of, symbols_at, relocs_at, strings_at, names_at, headers_at, headers_of, elf_header, file_of, count_of, sect_headers, table_headers, null_header, symtab_header, strings_header, locals_end, prefix_of, sect_name, sect_content}
use Rattle.elf_build.specs.Buildable.{Buildable}
use Rattle.elf_build.proofs.Parts.{length_elf_header}
use Rattle.elf_build.proofs.Stands.{Stands, stands_whole, stands_prefix, stands_suffix, stands_in, word_is, half_is}
use Rattle.elf_build.proofs.EntryLemmas.{length_header}

pub record Parts (bytes : List ℕ) (m : Module) : Type 0 where
  pub header_fits : Stands bytes 0 (elf_header (headers_at m) (header_total m) (count_of m + 3))
  pub contents : Stands bytes 52 (contents_of m.sections)
  pub symbols : Stands bytes (symbols_at m) (symbols_of m.symbols)
  pub relocs : Stands bytes (relocs_at m) (relocs_of m.relocs)
  pub strings : Stands bytes (strings_at m) (strings_of m.symbols)
  pub names : Stands bytes (names_at m) (names_of m.sections)
  pub headers : Stands bytes (headers_at m) (headers_of m)
  pub short : length bytes < 2 ^ 32

pub parts_stand : (m : Module) → Buildable m → Parts (file_of m) m
unfolding file_of symbols_at relocs_at strings_at names_at headers_at
parts_stand m b =
    let header_fits = elf_header (headers_at m) (header_total m) (count_of m + 3) in
    let s0 = stands_whole (file_of m) in
    let r6 = headers_of m in
    let r5 = names_of m.sections ++ r6 in
    let r4 = strings_of m.symbols ++ r5 in
    let r3 = relocs_of m.relocs ++ r4 in
    let r2 = symbols_of m.symbols ++ r3 in
    let r1 = contents_of m.sections ++ r2 in
    let s1 = stands_suffix (file_of m) 0 52 header_fits r1 s0 (let e = length_elf_header (headers_at m) (header_total m) (count_of m + 3) in omega arith) in
    let s2 = stands_suffix (file_of m) 52 (symbols_at m) (contents_of m.sections) r2 s1 refl in
    let s3 = stands_suffix (file_of m) (symbols_at m) (relocs_at m) (symbols_of m.symbols) r3 s2 refl in
    let s4 = stands_suffix (file_of m) (relocs_at m) (strings_at m) (relocs_of m.relocs) r4 s3 refl in
    let s5 = stands_suffix (file_of m) (strings_at m) (names_at m) (strings_of m.symbols) r5 s4 refl in
    record {
      header_fits = stands_prefix (file_of m) 0 header_fits r1 s0;
      contents = stands_prefix (file_of m) 52 (contents_of m.sections) r2 s1;
      symbols = stands_prefix (file_of m) (symbols_at m) (symbols_of m.symbols) r3 s2;
      relocs = stands_prefix (file_of m) (relocs_at m) (relocs_of m.relocs) r4 s3;
      strings = stands_prefix (file_of m) (strings_at m) (strings_of m.symbols) r5 s4;
      names = stands_prefix (file_of m) (names_at m) (names_of m.sections) r6 s5;
      headers = stands_suffix (file_of m) (names_at m) (headers_at m) (names_of m.sections) r6 s5 refl;
      short = b.short;
    }

-- ---- the ELF header

pub headers_place : (bytes : List ℕ) (headers count names : ℕ) → Stands bytes 0 (elf_header headers count names) → headers < 2 ^ 32 → word bytes 32 ≡ headers
unfolding elf_header
headers_place bytes headers count names s h = word_is bytes 32 headers (drop 36 (elf_header headers count names)) (stands_in bytes 0 32 (elf_header headers count names) s (omega arith)) h

pub headers_count : (bytes : List ℕ) (headers count names : ℕ) → Stands bytes 0 (elf_header headers count names) → count < 2 ^ 16 → half bytes 48 ≡ count
unfolding elf_header
headers_count bytes headers count names s h = half_is bytes 48 count (drop 50 (elf_header headers count names)) (stands_in bytes 0 48 (elf_header headers count names) s (omega arith)) h

pub names_number : (bytes : List ℕ) (headers count names : ℕ) → Stands bytes 0 (elf_header headers count names) → names < 2 ^ 16 → half bytes 50 ≡ names
unfolding elf_header
names_number bytes headers count names s h = half_is bytes 50 names [] (stands_in bytes 0 50 (elf_header headers count names) s (omega arith)) h

-- ---- the section headers

pub length_sect_headers : (name at : ℕ) (ss : List Sect) → length (sect_headers name at ss) ≡ 40 * length ss
length_sect_headers name at [] = refl
length_sect_headers name at (s ∷ ss) =
    let here = sect_header (name + length (prefix_of s)) at s in
    let after = sect_headers (name + length (sect_name s)) (at + length (sect_content s)) ss in
    let h = length_header here in
    let rest = length_sect_headers (name + length (sect_name s)) (at + length (sect_content s)) ss in
    let both = length-append (header_bytes here) after in
    omega arith

pub record Headers (bytes : List ℕ) (m : Module) : Type 0 where
  pub null : Stands bytes (headers_at m + 40 * 0) (header_bytes null_header)
  pub sects : Stands bytes (headers_at m + 40 * 1) (sect_headers 27 52 m.sections)
  pub symtab : Stands bytes (headers_at m + 40 * (count_of m + 1)) (header_bytes (symtab_header (symbols_at m) (length (symbols_of m.symbols)) (count_of m + 2) (locals_end m.symbols)))
  pub strings : Stands bytes (headers_at m + 40 * (count_of m + 2)) (header_bytes (strings_header 9 (strings_at m) (length (strings_of m.symbols))))
  pub names : Stands bytes (headers_at m + 40 * (count_of m + 3)) (header_bytes (strings_header 17 (names_at m) (length (names_of m.sections))))
  pub relas : Stands bytes (headers_at m + 40 * (count_of m + 4)) (table_headers m.sections (count_of m + 1) (relocs_at m) (tables_of m.relocs))

pub headers_stand : (bytes : List ℕ) (m : Module) → Stands bytes (headers_at m) (headers_of m) → Headers bytes m
unfolding headers_of
headers_stand bytes m s =
    let p = headers_at m in
    let n = count_of m in
    let h0 = header_bytes null_header in
    let h1 = sect_headers 27 52 m.sections in
    let h2 = header_bytes (symtab_header (symbols_at m) (length (symbols_of m.symbols)) (n + 2) (locals_end m.symbols)) in
    let h3 = header_bytes (strings_header 9 (strings_at m) (length (strings_of m.symbols))) in
    let h4 = header_bytes (strings_header 17 (names_at m) (length (names_of m.sections))) in
    let r5 = table_headers m.sections (n + 1) (relocs_at m) (tables_of m.relocs) in
    let r4 = h4 ++ r5 in
    let r3 = h3 ++ r4 in
    let r2 = h2 ++ r3 in
    let r1 = h1 ++ r2 in
    let start : p ≡ p + 40 * 0 = omega arith in
    let s0 : Stands bytes (p + 40 * 0) (h0 ++ r1) = subst (λ x. Stands bytes x (h0 ++ r1)) start s in
    let l0 = length_header null_header in
    let l1 = length_sect_headers 27 52 m.sections in
    let l2 = length_header (symtab_header (symbols_at m) (length (symbols_of m.symbols)) (n + 2) (locals_end m.symbols)) in
    let l3 = length_header (strings_header 9 (strings_at m) (length (strings_of m.symbols))) in
    let l4 = length_header (strings_header 17 (names_at m) (length (names_of m.sections))) in
    let s1 = stands_suffix bytes (p + 40 * 0) (p + 40 * 1) h0 r1 s0 (omega arith) in
    let s2 = stands_suffix bytes (p + 40 * 1) (p + 40 * (n + 1)) h1 r2 s1 (omega arith) in
    let s3 = stands_suffix bytes (p + 40 * (n + 1)) (p + 40 * (n + 2)) h2 r3 s2 (omega arith) in
    let s4 = stands_suffix bytes (p + 40 * (n + 2)) (p + 40 * (n + 3)) h3 r4 s3 (omega arith) in
    record {
      null = stands_prefix bytes (p + 40 * 0) h0 r1 s0;
      sects = stands_prefix bytes (p + 40 * 1) h1 r2 s1;
      symtab = stands_prefix bytes (p + 40 * (n + 1)) h2 r3 s2;
      strings = stands_prefix bytes (p + 40 * (n + 2)) h3 r4 s3;
      names = stands_prefix bytes (p + 40 * (n + 3)) h4 r5 s4;
      relas = stands_suffix bytes (p + 40 * (n + 3)) (p + 40 * (n + 4)) h4 r5 s4 (omega arith);
    }
