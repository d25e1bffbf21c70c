-- The symbols of a built file.
use Rattle.std.proofs.Common.{◌≡◌, ℕ, zero, suc, ◌+◌, ◌*◌, ◌/◌, ◌%◌, ◌<◌, ◌≤◌, ◌^◌, List, [], ◌∷◌, length, get_or, refl, ◌∙◌, ap, arith, length-append, Bool, true, false, nat_le, nat_lt, Ok}
use Rattle.std.specs.Prelude.{◌==◌, ◌&&◌, ◌||◌, not, if◌then◌else◌, bit_and}
use Rattle.std.specs.List.{All, flat_map}
use Rattle.elf_read.specs.declared.error.ElfErr.TheVariants.{BadSymbol}
use Rattle.elf_read.specs.declared.module.SymPlace.{SymPlace}
use Rattle.elf_read.specs.declared.module.SymPlace.TheVariants.{Undefined, Absolute, Common, Section, Elsewhere}
use Rattle.elf_read.specs.declared.module.Sect.{Sect}
use Rattle.elf_read.specs.declared.module.Sym.{Sym}
use Rattle.elf_read.specs.declared.entries.SymbolEntry.{SymbolEntry}
use Rattle.elf_read.specs.Places.{half, symbol_at}
use Rattle.elf_read.specs.Rule.{unless}
use Rattle.elf_read.specs.Numbered.{total, gathered}
use Rattle.elf_read.specs.Rules.{has_place, lies_inside, is_right_common, is_right_symbol, symbol_rule, is_alignment}
use Rattle.elf_read.specs.Tables.{header, is_loaded, loaded_before, is_elsewhere, has_name, symtab, symbol, symbol_offset, symbol_names, one_loaded}
use Rattle.elf_read.specs.Contents.{name_at, place_of, sym_of, syms_at}
use Rattle.elf_build.specs.Entries.{symbol_bytes, sym_entry, number_of, ended}
use Rattle.elf_read.specs.Modules.{size_of}
use Rattle.elf_build.specs.File.{symbols_from, sym_name}
use Rattle.elf_build.proofs.Good.{GoodSym, GoodPlace}
use Rattle.elf_build.proofs.Stands.{Stands, stands_prefix, stands_suffix}
use Rattle.elf_build.proofs.EntryLemmas.{symbol_is, length_symbol}
use Rattle.elf_build.proofs.Names.{or_true, or_first, and_true, not_false, differs, below, above, at_most, else_branch, then_branch, all_first, all_rest, name_is, name_there}
use Rattle.elf_build.proofs.Sections.{AllAt, gathered_are}

-- the loaded sections have header numbers 1 to n
pub record Loads (bytes : List ℕ) (sections : List Sect) : Type 0 where
  pub few : length sections < 4096
  pub count : length sections < half bytes 48
  pub low : half bytes 48 ≤ 4096
  pub none : is_loaded bytes 0 ≡ false
  pub loaded : (k : ℕ) → k < length sections → is_loaded bytes (suc k) ≡ true
  pub size : (k : ℕ) → k < length sections → (d : Sect) → (header bytes (suc k)).size ≡ size_of (get_or sections k d).body

one_of : (bytes : List ℕ) (i : ℕ) → is_loaded bytes i ≡ true → one_loaded bytes i ≡ 1
one_of bytes i h = ap (λ b. if b then 1 else 0) h

total_loaded : (bytes : List ℕ) (sections : List Sect) → Loads bytes sections → (k : ℕ) → k < length sections → total (suc k) (one_loaded bytes) ≡ k
total_loaded bytes sections l zero h = ap (λ b. 0 + (if b then 1 else 0)) l.none
total_loaded bytes sections l (suc k) h =
    let before = total_loaded bytes sections l k (omega arith) in
    let one = one_of bytes (suc k) (l.loaded k (omega arith)) in
    omega arith

pub number_loaded : (bytes : List ℕ) (sections : List Sect) → Loads bytes sections → (k : ℕ) → k < length sections → loaded_before bytes (suc k) ≡ k
unfolding loaded_before
number_loaded bytes sections l k h = total_loaded bytes sections l k h

-- ---- places

number_low : (ss : List Sect) (p : SymPlace) (value size : ℕ) → length ss < 4096 → GoodPlace ss p value size → number_of p < 2 ^ 16
number_low ss Undefined value size f h = omega arith
number_low ss Absolute value size f h = omega arith
number_low ss Common value size f h = omega arith
number_low ss (Section k) value size f h = let a = h.0 in omega arith
number_low ss Elsewhere value size f h = absurd h

place_back : (bytes : List ℕ) (ss : List Sect) (p : SymPlace) (value size : ℕ) → Loads bytes ss → GoodPlace ss p value size → place_of bytes (number_of p) ≡ p
unfolding place_of
place_back bytes ss Undefined value size l h = refl
place_back bytes ss Absolute value size l h = refl
place_back bytes ss Common value size l h = refl
place_back bytes ss (Section k) value size l h =
    let a = h.0 in
    let f = l.few in
    let e : k + 1 ≡ suc k = omega arith in
    let n : ℕ = k + 1 in
    else_branch (n == 0) Undefined (if n == 0xfff1 then Absolute else if n == 0xfff2 then Common else if is_loaded bytes n then Section (loaded_before bytes n) else Elsewhere) (differs n 0 (λ z. omega arith))
    ∙ (else_branch (n == 0xfff1) Absolute (if n == 0xfff2 then Common else if is_loaded bytes n then Section (loaded_before bytes n) else Elsewhere) (differs n 0xfff1 (λ z. omega arith))
    ∙ (else_branch (n == 0xfff2) Common (if is_loaded bytes n then Section (loaded_before bytes n) else Elsewhere) (differs n 0xfff2 (λ z. omega arith))
    ∙ (then_branch (is_loaded bytes n) (Section (loaded_before bytes n)) Elsewhere (ap (is_loaded bytes) e ∙ l.loaded k a)
    ∙ ap Section (ap (loaded_before bytes) e ∙ number_loaded bytes ss l k a))))
place_back bytes ss Elsewhere value size l h = absurd h

not_elsewhere : (bytes : List ℕ) (ss : List Sect) (p : SymPlace) (value size : ℕ) → Loads bytes ss → GoodPlace ss p value size → is_elsewhere bytes (number_of p) ≡ false
unfolding is_elsewhere
not_elsewhere bytes ss Undefined value size l h = refl
not_elsewhere bytes ss Absolute value size l h = let w = l.low in ap (λ b. b && not (is_loaded bytes 0xfff1)) (above 0xfff1 (half bytes 48) (omega arith))
not_elsewhere bytes ss Common value size l h = let w = l.low in ap (λ b. b && not (is_loaded bytes 0xfff2)) (above 0xfff2 (half bytes 48) (omega arith))
not_elsewhere bytes ss (Section k) value size l h =
    let a = h.0 in
    let c = l.count in
    let e : k + 1 ≡ suc k = omega arith in
    ap (λ b. not b && (nat_lt (k + 1) (half bytes 48) && not (is_loaded bytes (k + 1)))) (differs (k + 1) 0 (λ z. omega arith))
    ∙ (ap (λ b. b && not (is_loaded bytes (k + 1))) (below (k + 1) (half bytes 48) (omega arith))
    ∙ ap not (ap (is_loaded bytes) e ∙ l.loaded k a))
not_elsewhere bytes ss Elsewhere value size l h = absurd h

-- ---- the rule of symbols

abbrev placed_at : ℕ → ℕ → Bool
placed_at count n = nat_lt n count || (n == 0xfff1 || n == 0xfff2)

place_ok : (bytes : List ℕ) (ss : List Sect) (p : SymPlace) (value size : ℕ) → Loads bytes ss → GoodPlace ss p value size → placed_at (half bytes 48) (number_of p) ≡ true
place_ok bytes ss Undefined value size l h = let c = l.count in or_first (nat_lt 0 (half bytes 48)) false (below 0 (half bytes 48) (omega arith))
place_ok bytes ss Absolute value size l h = or_true (nat_lt 0xfff1 (half bytes 48)) true refl
place_ok bytes ss Common value size l h = or_true (nat_lt 0xfff2 (half bytes 48)) true refl
place_ok bytes ss (Section k) value size l h =
    let a = h.0 in let c = l.count in
    or_first (nat_lt (k + 1) (half bytes 48)) ((k + 1) == 0xfff1 || (k + 1) == 0xfff2) (below (k + 1) (half bytes 48) (omega arith))
place_ok bytes ss Elsewhere value size l h = absurd h

inside_ok : (bytes : List ℕ) (ss : List Sect) (d : Sect) (p : SymPlace) (value size : ℕ) → Loads bytes ss → GoodPlace ss p value size → ((number_of p == 0) || (not (is_loaded bytes (number_of p)) || nat_le value (header bytes (number_of p)).size)) ≡ true
unfolding is_loaded
inside_ok bytes ss d Undefined value size l h = refl
inside_ok bytes ss d Absolute value size l h =
    let w = l.low in
    let out : is_loaded bytes 0xfff1 ≡ false = ap (λ b. b && not (bit_and (header bytes 0xfff1).flags 2 == 0)) (above 0xfff1 (half bytes 48) (omega arith)) in
    ap (λ b. not b || nat_le value (header bytes 0xfff1).size) out
inside_ok bytes ss d Common value size l h =
    let w = l.low in
    let out : is_loaded bytes 0xfff2 ≡ false = ap (λ b. b && not (bit_and (header bytes 0xfff2).flags 2 == 0)) (above 0xfff2 (half bytes 48) (omega arith)) in
    ap (λ b. not b || nat_le value (header bytes 0xfff2).size) out
inside_ok bytes ss d (Section k) value size l h =
    let a = h.0 in
    let v = h.1 d in
    let e : k + 1 ≡ suc k = omega arith in
    let long : (header bytes (k + 1)).size ≡ size_of (get_or ss k d).body = ap (λ n. (header bytes n).size) e ∙ l.size k a d in
    or_true ((k + 1) == 0) (not (is_loaded bytes (k + 1)) || nat_le value (header bytes (k + 1)).size)
    (or_true (not (is_loaded bytes (k + 1))) (nat_le value (header bytes (k + 1)).size) (at_most value (header bytes (k + 1)).size (omega arith)))
inside_ok bytes ss d Elsewhere value size l h = absurd h

common_ok : (ss : List Sect) (p : SymPlace) (value size : ℕ) → length ss < 4096 → GoodPlace ss p value size → (not (number_of p == 0xfff2) || (is_alignment value && nat_le size 16777216)) ≡ true
common_ok ss Undefined value size f h = refl
common_ok ss Absolute value size f h = refl
common_ok ss Common value size f h = and_true (is_alignment value) (nat_le size 16777216) h.0 (at_most size 16777216 h.1)
common_ok ss (Section k) value size f h = let a = h.0 in or_first (not ((k + 1) == 0xfff2)) (is_alignment value && nat_le size 16777216) (not_false ((k + 1) == 0xfff2) (differs (k + 1) 0xfff2 (λ z. omega arith)))
common_ok ss Elsewhere value size f h = absurd h

-- ---- one symbol

-- what is known of a file's symbol table
pub record SymReads (bytes : List ℕ) (place : ℕ) (strings : List ℕ) (sections : List Sect) : Type 0 where
  pub table : (header bytes (symtab bytes)).offset ≡ place
  pub strings_are : symbol_names bytes ≡ strings
  pub short : length strings < 2 ^ 32
  pub loads : Loads bytes sections

-- entry number k is that of this symbol
pub record SymAt (bytes : List ℕ) (k : ℕ) (s : Sym) : Type 0 where
  pub same : sym_of bytes k ≡ s
  pub stands : is_elsewhere bytes (symbol bytes k).section ≡ false
  pub fits : symbol_rule bytes k ≡ Ok tt

same_sym : (a s : Sym) → a.name ≡ s.name → a.binding ≡ s.binding → a.kind ≡ s.kind → a.value ≡ s.value → a.size ≡ s.size → a.place ≡ s.place → a ≡ s
same_sym a s p1 p2 p3 p4 p5 p6 =
    ap (λ x. record { name = x; binding = a.binding; kind = a.kind; value = a.value; size = a.size; place = a.place }) p1
    ∙ (ap (λ x. record { name = s.name; binding = x; kind = a.kind; value = a.value; size = a.size; place = a.place }) p2
    ∙ (ap (λ x. record { name = s.name; binding = s.binding; kind = x; value = a.value; size = a.size; place = a.place }) p3
    ∙ (ap (λ x. record { name = s.name; binding = s.binding; kind = s.kind; value = x; size = a.size; place = a.place }) p4
    ∙ (ap (λ x. record { name = s.name; binding = s.binding; kind = s.kind; value = s.value; size = x; place = a.place }) p5
    ∙ ap (λ x. record { name = s.name; binding = s.binding; kind = s.kind; value = s.value; size = s.size; place = x }) p6))))

high : (b k : ℕ) → k ≤ 5 → (16 * b + k) / 16 ≡ b
high b k h = omega arith

low : (b k : ℕ) → k ≤ 5 → (16 * b + k) % 16 ≡ k
low b k h = omega arith

entry_of : (bytes strings : List ℕ) (sections : List Sect) (place k name : ℕ) (s : Sym) → SymReads bytes place strings sections → Stands bytes (place + 16 * k) (symbol_bytes (sym_entry name s)) → Stands strings name (ended s.name) → GoodSym sections s → symbol bytes k ≡ sym_entry name s
unfolding symbol sym_entry
entry_of bytes strings sections place k name s r e n good =
    let w = n.within in
    let z = r.short in
    ap (λ p. symbol_at bytes (p + 16 * k)) r.table
    ∙ symbol_is bytes (place + 16 * k) (sym_entry name s) e
    (record { name = omega arith; value = good.value; size = good.size; section = number_low sections s.place s.value s.size r.loads.few good.place })

sym_same : (bytes strings : List ℕ) (sections : List Sect) (place k name : ℕ) (s : Sym) → SymReads bytes place strings sections → symbol bytes k ≡ sym_entry name s → Stands strings name (ended s.name) → GoodSym sections s → sym_of bytes k ≡ s
unfolding sym_of sym_entry
sym_same bytes strings sections place k name s r e n good =
    same_sym (sym_of bytes k) s
    (ap (λ x. name_at x (symbol bytes k).name) r.strings_are ∙ (ap (λ x. name_at strings x.name) e ∙ name_is strings name s.name n good.name))
    (ap (λ x. x.info / 16) e ∙ high s.binding s.kind good.kind)
    (ap (λ x. x.info % 16) e ∙ low s.binding s.kind good.kind)
    (ap (λ x. x.value) e)
    (ap (λ x. x.size) e)
    (ap (λ x. place_of bytes x.section) e ∙ place_back bytes sections s.place s.value s.size r.loads good.place)

abbrev is_right_symbol_by : List ℕ → List ℕ → SymbolEntry → Bool
is_right_symbol_by bytes names e = has_name names e.name && (nat_le (e.info / 16) 2 && (nat_le (e.info % 16) 5 && (has_place bytes e && (lies_inside bytes e && is_right_common e))))

right_is : (bytes : List ℕ) (e : SymbolEntry) → is_right_symbol bytes e ≡ is_right_symbol_by bytes (symbol_names bytes) e
unfolding is_right_symbol
right_is bytes e = refl

passes_by : (bytes strings : List ℕ) (sections : List Sect) (d : Sect) (place name : ℕ) (s : Sym) → SymReads bytes place strings sections → Stands strings name (ended s.name) → GoodSym sections s → is_right_symbol_by bytes strings (sym_entry name s) ≡ true
unfolding sym_entry has_place lies_inside is_right_common
passes_by bytes strings sections d place name s r n good =
    let h = high s.binding s.kind good.kind in
    let l = low s.binding s.kind good.kind in
    let b = good.binding in
    let k = good.kind in
    let e = sym_entry name s in
    and_true (has_name strings e.name) (nat_le (e.info / 16) 2 && (nat_le (e.info % 16) 5 && (has_place bytes e && (lies_inside bytes e && is_right_common e)))) (name_there strings name s.name n good.name)
    (and_true (nat_le (e.info / 16) 2) (nat_le (e.info % 16) 5 && (has_place bytes e && (lies_inside bytes e && is_right_common e))) (at_most (e.info / 16) 2 (omega arith))
    (and_true (nat_le (e.info % 16) 5) (has_place bytes e && (lies_inside bytes e && is_right_common e)) (at_most (e.info % 16) 5 (omega arith))
    (and_true (has_place bytes e) (lies_inside bytes e && is_right_common e) (place_ok bytes sections s.place s.value s.size r.loads good.place)
    (and_true (lies_inside bytes e) (is_right_common e) (inside_ok bytes sections d s.place s.value s.size r.loads good.place)
    (common_ok sections s.place s.value s.size r.loads.few good.place)))))

sym_is : (bytes strings : List ℕ) (sections : List Sect) (d : Sect) (place k name : ℕ) (s : Sym) → SymReads bytes place strings sections → Stands bytes (place + 16 * k) (symbol_bytes (sym_entry name s)) → Stands strings name (ended s.name) → GoodSym sections s → SymAt bytes k s
unfolding sym_entry
sym_is bytes strings sections d place k name s r st n good =
    let e = entry_of bytes strings sections place k name s r st n good in
    record {
      same = sym_same bytes strings sections place k name s r e n good;
      stands = ap (λ x. is_elsewhere bytes x.section) e ∙ not_elsewhere bytes sections s.place s.value s.size r.loads good.place;
      fits =
          ap (λ b. unless b (BadSymbol (symbol_offset bytes k))) (right_is bytes (symbol bytes k) ∙ ap (λ x. is_right_symbol_by bytes x (symbol bytes k)) r.strings_are)
          ∙ (ap (λ x. unless (is_right_symbol_by bytes strings x) (BadSymbol (symbol_offset bytes k))) e
          ∙ ap (λ b. unless b (BadSymbol (symbol_offset bytes k))) (passes_by bytes strings sections d place name s r n good));
    }

-- ---- all of them

pub syms_are : (bytes strings : List ℕ) (sections : List Sect) (d : Sect) (place k name : ℕ) (ss : List Sym) → SymReads bytes place strings sections → Stands bytes (place + 16 * k) (symbols_from name ss) → Stands strings name (flat_map sym_name ss) → All (GoodSym sections) ss → AllAt (SymAt bytes) k ss
syms_are bytes strings sections d place k name [] r e n good = tt
syms_are bytes strings sections d place k name (s ∷ ss) r e n good =
    let here = symbol_bytes (sym_entry name s) in
    let rest = symbols_from (name + length s.name + 1) ss in
    let size = length_symbol (sym_entry name s) in
    let long = length-append s.name (0 ∷ []) in
    let next = stands_suffix bytes (place + 16 * k) (place + 16 * (k + 1)) here rest e (omega arith) in
    let names_next = stands_suffix strings name (name + length s.name + 1) (ended s.name) (flat_map sym_name ss) n (omega arith) in (
      sym_is bytes strings sections d place k name s r
          (stands_prefix bytes (place + 16 * k) here rest e)
          (stands_prefix strings name (ended s.name) (flat_map sym_name ss) n)
          (all_first (GoodSym sections) s ss good),
      syms_are bytes strings sections d place (k + 1) (name + length s.name + 1) ss r next names_next (all_rest (GoodSym sections) s ss good),
    )

pub syms_gathered : (bytes : List ℕ) (k : ℕ) (ss : List Sym) → AllAt (SymAt bytes) k ss → gathered k (length ss) (syms_at bytes) ≡ ss
syms_gathered bytes k ss all = gathered_are (SymAt bytes) (syms_at bytes) k ss (λ j s h. ap (λ x. x ∷ []) h.same) all
