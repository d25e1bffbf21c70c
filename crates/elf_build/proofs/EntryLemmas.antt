-- Entries that are at a place are read there.
use Rattle.std.proofs.Common.{◌≡◌, ℕ, ◌+◌, ◌*◌, ◌<◌, ◌^◌, List, [], ◌++◌, length, drop, refl, ◌∙◌, ap, arith}
use Rattle.byteorder.specs.Endian.{big_bytes}
use Rattle.elf_read.specs.declared.entries.SectionHeader.{SectionHeader}
use Rattle.elf_read.specs.declared.entries.SymbolEntry.{SymbolEntry}
use Rattle.elf_read.specs.declared.entries.RelaEntry.{RelaEntry}
use Rattle.elf_read.specs.Places.{word, header_at, symbol_at, rela_at}
use Rattle.elf_read.specs.Tables.{header}
use Rattle.elf_build.specs.Entries.{header_bytes, symbol_bytes, relocation_bytes}
use Rattle.elf_build.proofs.Stands.{Stands, stands_in, stands_suffix, word_is, half_is, byte_is}

pub record HeaderFits (h : SectionHeader) : Type 0 where
  pub name : h.name < 2 ^ 32
  pub kind : h.kind < 2 ^ 32
  pub flags : h.flags < 2 ^ 32
  pub offset : h.offset < 2 ^ 32
  pub size : h.size < 2 ^ 32
  pub link : h.link < 2 ^ 32
  pub info : h.info < 2 ^ 32
  pub align : h.align < 2 ^ 32
  pub entry_size : h.entry_size < 2 ^ 32

pub record SymbolFits (e : SymbolEntry) : Type 0 where
  pub name : e.name < 2 ^ 32
  pub value : e.value < 2 ^ 32
  pub size : e.size < 2 ^ 32
  pub section : e.section < 2 ^ 16

pub record RelocationFits (r : RelaEntry) : Type 0 where
  pub offset : r.offset < 2 ^ 32
  pub info : r.info < 2 ^ 32
  pub addend : r.addend < 2 ^ 32

-- three words in a row are read
three_words : (bytes : List ℕ) (p q r x y z : ℕ) (rest : List ℕ) → Stands bytes p (big_bytes 4 x ++ (big_bytes 4 y ++ (big_bytes 4 z ++ rest))) → q ≡ p + 4 → r ≡ q + 4
    → x < 2 ^ 32 → y < 2 ^ 32 → z < 2 ^ 32 → (word bytes p ≡ x) × (word bytes q ≡ y) × (word bytes r ≡ z)
three_words bytes p q r x y z rest s e f a b c =
    let second = stands_suffix bytes p q (big_bytes 4 x) (big_bytes 4 y ++ (big_bytes 4 z ++ rest)) s e in
    let third = stands_suffix bytes q r (big_bytes 4 y) (big_bytes 4 z ++ rest) second f in
    (word_is bytes p x (big_bytes 4 y ++ (big_bytes 4 z ++ rest)) s a, word_is bytes q y (big_bytes 4 z ++ rest) second b, word_is bytes r z rest third c)

pub length_header : (h : SectionHeader) → length (header_bytes h) ≡ 40
unfolding header_bytes
length_header h = refl

pub length_symbol : (e : SymbolEntry) → length (symbol_bytes e) ≡ 16
unfolding symbol_bytes
length_symbol e = refl

pub length_relocation : (r : RelaEntry) → length (relocation_bytes r) ≡ 12
unfolding relocation_bytes
length_relocation r = refl

pub header_at_is : (bytes : List ℕ) (at : ℕ) (h : SectionHeader) → Stands bytes at (header_bytes h) → HeaderFits h → header_at bytes at ≡ h
unfolding header_at header_bytes
header_at_is bytes at h s f =
    let start = three_words bytes at (at + 4) (at + 8) h.name h.kind h.flags (drop 12 (header_bytes h)) s (omega arith) (omega arith) f.name f.kind f.flags in
    let middle = three_words bytes (at + 16) (at + 20) (at + 24) h.offset h.size h.link (drop 28 (header_bytes h)) (stands_in bytes at 16 (header_bytes h) s (omega (arith, length_header h))) (omega arith) (omega arith) f.offset f.size f.link in
    let end = three_words bytes (at + 28) (at + 32) (at + 36) h.info h.align h.entry_size (drop 40 (header_bytes h)) (stands_in bytes at 28 (header_bytes h) s (omega (arith, length_header h))) (omega arith) (omega arith) f.info f.align f.entry_size in
    λ i. record {
      name = start.0 i;
      kind = start.1 i;
      flags = start.2 i;
      offset = middle.0 i;
      size = middle.1 i;
      link = middle.2 i;
      info = end.0 i;
      align = end.1 i;
      entry_size = end.2 i;
    }

pub header_is : (bytes : List ℕ) (place i : ℕ) (h : SectionHeader) → word bytes 32 ≡ place → Stands bytes (place + 40 * i) (header_bytes h) → HeaderFits h → header bytes i ≡ h
unfolding header
header_is bytes place i h e s f = ap (λ p. header_at bytes (p + 40 * i)) e ∙ header_at_is bytes (place + 40 * i) h s f

pub symbol_is : (bytes : List ℕ) (at : ℕ) (e : SymbolEntry) → Stands bytes at (symbol_bytes e) → SymbolFits e → symbol_at bytes at ≡ e
unfolding symbol_at symbol_bytes
symbol_is bytes at e s f =
    let words = three_words bytes at (at + 4) (at + 8) e.name e.value e.size (drop 12 (symbol_bytes e)) s (omega arith) (omega arith) f.name f.value f.size in
    let info = byte_is bytes (at + 12) e.info (drop 13 (symbol_bytes e)) (stands_in bytes at 12 (symbol_bytes e) s (omega (arith, length_symbol e))) in
    let section = half_is bytes (at + 14) e.section [] (stands_in bytes at 14 (symbol_bytes e) s (omega (arith, length_symbol e))) f.section in
    λ i. record { name = words.0 i; value = words.1 i; size = words.2 i; info = info i; section = section i }

pub relocation_is : (bytes : List ℕ) (at : ℕ) (r : RelaEntry) → Stands bytes at (relocation_bytes r) → RelocationFits r → rela_at bytes at ≡ r
unfolding rela_at relocation_bytes
relocation_is bytes at r s f =
    let words = three_words bytes at (at + 4) (at + 8) r.offset r.info r.addend [] s (omega arith) (omega arith) f.offset f.info f.addend in
    λ i. record { offset = words.0 i; info = words.1 i; addend = words.2 i }
