-- An assembled module has a file.
use Rattle.std.proofs.Common.{◌≡◌, ◌≢◌, ℕ, zero, suc, ◌+◌, ◌-◌, ◌*◌, ◌≤◌, ◌<◌, ◌^◌, Bool, true, false, not, List, [], ◌∷◌, ◌++◌, length, map, filter, Some, Result, Ok, Err, refl, sym, ◌∙◌, subst, arith, length-append, inl, inr}
use Rattle.std.specs.Prelude.{◌⊎◌, if◌then◌else◌, ◌==◌, ◌&&◌, nat_le, codes, slice_index_or, unwrap_or, bytes_eq, bit_and}
use Rattle.std.specs.List.{All, flat_map, list_all}
use Rattle.std.proofs.lemmas.List.{length-map}
use Rattle.std.proofs.lemmas.Bool.{and_parts, leb-true, leb-false}
use Rattle.std.proofs.lemmas.Bool.Decides.{nat_tests}
use Rattle.std.proofs.lemmas.List.Elements.{All-nil, All-cons, All-head, All-tail, All-append, All-map, All-filter}
use Rattle.elf_read.specs.declared.module.Sect.{Sect}
use Rattle.elf_read.specs.declared.module.Sym.{Sym}
use Rattle.elf_read.specs.declared.module.Rel.{Rel}
use Rattle.elf_read.specs.declared.module.Module.{Module}
use Rattle.wind_base.specs.Limits.{most_section_bytes}
use Rattle.elf_read.specs.Standard.{shf_alloc, shf_tls_or_compressed}
use Rattle.elf_read.specs.Tables.{width}
use Rattle.elf_read.specs.Rules.{is_alignment}
use Rattle.elf_read.specs.Modules.{IsName as IsFileName, IsSect, IsSym, HoldsBytes, IsRel, IsModule, size_of}
use Rattle.elf_build.specs.File.{RelocTable, joined, tables_of, sym_name, prefix_of, sect_name, sect_content, file_of}
use Rattle.elf_build.specs.Buildable.{IsHere, Rises, SectFits, SymFits, RelFits, Buildable}
use Rattle.elf_build.proofs.Length.{length_formula}
use Rattle.ppc_text.proofs.Naming.{IsName}
use Rattle.asm_lines.specs.declared.error.Cause.{Cause}
use Rattle.asm_lines.specs.declared.section.Fix.{Fix}
use Rattle.asm_lines.specs.declared.names.Label.{Label}
use Rattle.asm_lines.specs.Causes.{most_names, items}
use Rattle.asm_lines.specs.Items.{Placed, section_bytes, size}
use Rattle.asm_lines.specs.Names.{defined, globals, mentions, first_names, labels, fixes}
use Rattle.ppc_asm.specs.Assembly.{label_symbol, undefined_symbol, binding_of, is_chosen, is_undefined, symbols, number_from, number_in, relocation, relocations, section_of, module_of, module_or, assembly}
use Rattle.ppc_asm.proofs.Sound.{reach, LabelIn, FixIn, Sound, sound_items}
use Rattle.ppc_asm.proofs.Counting.{first_all, Small, small, few_symbols}

All_then : {A : Type 0} (P Q : A → Type 0) (xs : List A) → ((x : A) → P x → Q x) → All P xs → All Q xs
All_then P Q xs f h = λ k d lt. f _ (h k d lt)

no : false ≡ true → ⊥
no e = cc

no_zeros : (bs : List ℕ) → list_all (λ b. not (b == 0)) bs ≡ true → All (λ b. b ≢ 0) bs
no_zeros [] h = All-nil (λ b. b ≢ 0)
no_zeros (zero ∷ bs) h = absurd (no h)
no_zeros (suc b ∷ bs) h =
    All-cons (λ b. b ≢ 0) (suc b) bs (λ e. omega arith) (no_zeros bs (and_parts (not (suc b == 0)) (list_all (λ b. not (b == 0)) bs) h).1)

-- ---- sections
abbrev two : List Placed → List Sect
two ps = section_of (codes ".text") 6 (section_bytes 0 ps) ∷ section_of (codes ".data") 3 (section_bytes 1 ps) ∷ []

-- a section whose name has five bytes
sect_named : (name bytes : List ℕ) (flags : ℕ) → length name ≡ 5 → list_all (λ b. not (b == 0)) name ≡ true → (bit_and flags shf_alloc == 0) ≡ false
    → (bit_and flags shf_tls_or_compressed == 0) ≡ true → length bytes ≤ most_section_bytes → IsSect (section_of name flags bytes)
unfolding is_alignment
sect_named name bytes flags five no_zero loaded plain few = record {
  name = record { size = omega (arith, five); no_zero = no_zeros name no_zero };
  loaded = loaded;
  plain = plain;
  align = refl;
  size = few;
}

sect_text : (ps : List Placed) → Small ps → IsSect (section_of (codes ".text") 6 (section_bytes 0 ps))
sect_text ps a = sect_named (codes ".text") (section_bytes 0 ps) 6 refl refl refl refl (let t = a.text in omega arith)

sect_data : (ps : List Placed) → Small ps → IsSect (section_of (codes ".data") 3 (section_bytes 1 ps))
sect_data ps a = sect_named (codes ".data") (section_bytes 1 ps) 3 refl refl refl refl (let t = a.data_size in omega arith)

-- ---- symbols
file_name : (name : List ℕ) → IsName name → IsFileName name
file_name name h = record { size = h.size; no_zero = h.no_zero }

at_section : (ps : List Placed) (k off : ℕ) → k ≤ 1 → off ≤ size k ps → (k < 2) × ((d : Sect) → off ≤ size_of (slice_index_or (two ps) k d).body)
at_section ps zero off h i = (omega arith, λ d. i)
at_section ps (suc zero) off h i = (omega arith, λ d. i)
at_section ps (suc (suc k)) off h i = absurd (omega arith)

kind_low : (s : ℕ) → (if s == 0 then 2 else 1) ≤ 5
kind_low s = go (s == 0) where
  go : (b : Bool) → (if b then 2 else 1) ≤ 5
  go true = omega arith
  go false = omega arith

label_sym : (ps : List Placed) (binding : ℕ) (l : Label) → binding ≤ 2 → LabelIn ps l → IsSym (two ps) (label_symbol binding l)
label_sym ps binding l h a = record { name = file_name l.name a.name; binding = h; kind = kind_low l.section; place = at_section ps l.section l.offset a.known a.inside }

other_sym : (ps : List Placed) (name : List ℕ) → IsName name → IsSym (two ps) (undefined_symbol name)
other_sym ps name h = record { name = file_name name h; binding = omega arith; kind = omega arith; place = tt }

size_low : (ps : List Placed) (k off : ℕ) → Small ps → k ≤ 1 → off ≤ size k ps → off < 2 ^ 32
size_low ps zero off a h i = let t = a.text in omega arith
size_low ps (suc zero) off a h i = let t = a.data_size in omega arith
size_low ps (suc (suc k)) off a h i = absurd (omega arith)

-- the requirements on each symbol
record GoodSym (ps : List Placed) (s : Sym) : Type 0 where
  pub sound : IsSym (two ps) s
  pub here : IsHere s
  pub fits : SymFits s

good_label : (ps : List Placed) (binding : Bool) (l : Label) → binding_of binding ≤ 2 → Small ps → LabelIn ps l → GoodSym ps (label_symbol (binding_of binding) l)
good_label ps binding l h m k = record { sound = label_sym ps (binding_of binding) l h k; here = λ e. cc; fits = (size_low ps l.section l.offset m k.known k.inside, omega arith) }

good_other : (ps : List Placed) (n : List ℕ) → IsName n → GoodSym ps (undefined_symbol n)
good_other ps n k = record { sound = other_sym ps n k; here = λ e. cc; fits = (omega arith, omega arith) }

good_symbols : (ps : List Placed) → Sound ps → All (GoodSym ps) (symbols ps)
unfolding symbols first_names
good_symbols ps a =
    let m = small ps a.small in
    let chosen = λ (binding : Bool) (h : binding_of binding ≤ 2).
    All-map (GoodSym ps) (label_symbol (binding_of binding)) (filter (is_chosen (globals ps) binding) (labels ps))
    (All-filter (is_chosen (globals ps) binding) (λ (l : Label). GoodSym ps (label_symbol (binding_of binding) l)) (labels ps)
    (All_then (LabelIn ps) (λ (l : Label). GoodSym ps (label_symbol (binding_of binding) l)) (labels ps) (λ l k. good_label ps binding l h m k) a.labelled)) in
    All-append (GoodSym ps) _ _ (All-append (GoodSym ps) _ _ (chosen false (omega arith)) (chosen true (omega arith)))
    (All-map (GoodSym ps) undefined_symbol (filter (is_undefined (defined ps)) (first_names (mentions ps)))
    (All-filter (is_undefined (defined ps)) (λ n. GoodSym ps (undefined_symbol n)) (first_names (mentions ps))
    (All_then IsName (λ n. GoodSym ps (undefined_symbol n)) (first_names (mentions ps)) (λ n k. good_other ps n k) (first_all IsName [] (mentions ps) a.names))))

-- ---- relocations
width_low : (n : ℕ) → width n ≤ 4
unfolding width
width_low n = go _ _ where
  go : (a b : Bool) → (if a then 2 else if b then 4 else 0) ≤ 4
  go true b = omega arith
  go false true = omega arith
  go false false = omega arith

both_true : (x y : Bool) → (x && y) ≡ true → y ≡ true
both_true true y e = e
both_true false y e = cc

reach_far : (n : ℕ) → 7 ≤ n → reach n ≡ 4
unfolding reach
reach_far n h = go (nat_le 4 n && nat_le n 6) refl where
  go : (b : Bool) → (nat_le 4 n && nat_le n 6) ≡ b → ◌≡◌ {A = ℕ} (if b then 2 else 4) 4
  go true e = let k : n ≤ 6 = leb-true n 6 (both_true (nat_le 4 n) (nat_le n 6) e) in absurd (omega arith)
  go false e = refl

width_near : (kind : ℕ) → kind ≤ 6 → width kind ≤ reach kind
unfolding width reach
width_near zero h = omega arith
width_near (suc zero) h = omega arith
width_near (suc (suc zero)) h = omega arith
width_near (suc (suc (suc zero))) h = omega arith
width_near (suc (suc (suc (suc zero)))) h = omega arith
width_near (suc (suc (suc (suc (suc zero))))) h = omega arith
width_near (suc (suc (suc (suc (suc (suc zero)))))) h = omega arith
width_near (suc (suc (suc (suc (suc (suc (suc k))))))) h = absurd (omega arith)

width_within : (kind : ℕ) → width kind ≤ reach kind
width_within kind = go (nat_le kind 6) refl where
  go : (b : Bool) → nat_le kind 6 ≡ b → width kind ≤ reach kind
  go true e = width_near kind (leb-true kind 6 e)
  go false e = let k : 6 < kind = leb-false kind 6 e in let a = width_low kind in let r = reach_far kind (omega arith) in omega arith

numbered : (k : ℕ) (ss : List Sym) (q : List ℕ) → 1 ≤ k → unwrap_or (number_from k ss q) 0 + 1 ≤ k + length ss
numbered k [] q h = omega arith
numbered k (s ∷ ss) q h = go (bytes_eq s.name q) (numbered (k + 1) ss q (omega arith)) where
  go : (b : Bool) → unwrap_or (number_from (k + 1) ss q) 0 + 1 ≤ (k + 1) + length ss → unwrap_or (if b then Some k else number_from (k + 1) ss q) 0 + 1 ≤ k + length (s ∷ ss)
  go true n = omega arith
  go false n = omega arith

number_low : (ss : List Sym) (q : List ℕ) → unwrap_or (number_in ss q) 0 ≤ length ss
unfolding number_in
number_low ss q = let n = numbered 1 ss q (omega arith) in omega arith

body_at : (ps : List Placed) (k end : ℕ) → k ≤ 1 → end ≤ size k ps → (d : Sect) → HoldsBytes (slice_index_or (two ps) k d).body end
body_at ps zero end h i d = i
body_at ps (suc zero) end h i d = i
body_at ps (suc (suc k)) end h i d = absurd (omega arith)

good_rel : (ps : List Placed) (k : ℕ) (f : Fix) → k ≤ 1 → All (GoodSym ps) (symbols ps) → FixIn (size k ps) f → IsRel (two ps) (symbols ps) (relocation (symbols ps) k f)
good_rel ps k f h ys a =
    let w = width_within f.kind in
    let i = a.inside in
    let n = number_low (symbols ps) f.symbol in
    record { section = omega arith; inside = body_at ps k (f.offset + width f.kind) h (omega arith); symbol = n; here = λ d lt. (ys (unwrap_or (number_in (symbols ps) f.symbol) 0 - 1) d (omega arith)).here }

rel_fits : (ss : List Sym) (k n : ℕ) (f : Fix) → FixIn n f → RelFits (relocation ss k f)
rel_fits ss k n f a = (a.kind, a.addend)

good_rels : (ps : List Placed) (k : ℕ) → k ≤ 1 → All (GoodSym ps) (symbols ps) → All (FixIn (size k ps)) (fixes k ps) → All (IsRel (two ps) (symbols ps)) (map (relocation (symbols ps) k) (fixes k ps))
good_rels ps k h ys a = All-map (IsRel (two ps) (symbols ps)) (relocation (symbols ps) k) (fixes k ps) (All_then (FixIn (size k ps)) (λ (f : Fix). IsRel (two ps) (symbols ps) (relocation (symbols ps) k f)) (fixes k ps) (λ f x. good_rel ps k f h ys x) a)

fit_rels : (ps : List Placed) (k : ℕ) → All (FixIn (size k ps)) (fixes k ps) → All RelFits (map (relocation (symbols ps) k) (fixes k ps))
fit_rels ps k a = All-map RelFits (relocation (symbols ps) k) (fixes k ps) (All_then (FixIn (size k ps)) (λ (f : Fix). RelFits (relocation (symbols ps) k f)) (fixes k ps) (λ f x. rel_fits (symbols ps) k (size k ps) f x) a)

-- relocations are in the order of their sections
rises_one : (ss : List Sym) (fs : List Fix) → Rises 1 (map (relocation ss 1) fs)
rises_one ss [] = tt
rises_one ss (f ∷ fs) = (omega arith, rises_one ss fs)

rises_any : (ss : List Sym) (fs : List Fix) → Rises 0 (map (relocation ss 1) fs)
rises_any ss [] = tt
rises_any ss (f ∷ fs) = (omega arith, rises_one ss fs)

rises_both : (ss : List Sym) (fs gs : List Fix) → Rises 0 (map (relocation ss 0) fs ++ map (relocation ss 1) gs)
rises_both ss [] gs = rises_any ss gs
rises_both ss (f ∷ fs) gs = (omega arith, rises_both ss fs gs)

-- so they have at most two tables
same : (a b : ℕ) → a ≡ b → (b == a) ≡ true
same a b e = grind (arith, nat_tests)

abbrev Single : List RelocTable → Type 0
Single [] = Unit {0}
Single (t ∷ []) = t.section ≡ 1
Single (t ∷ u ∷ ts) = ⊥

single_more : (r : Rel) (ts : List RelocTable) → r.section ≡ 1 → Single ts → Single (joined r ts)
single_more r [] e h = e
single_more r (t ∷ []) e h = go (r.section == t.section) (same t.section r.section (h ∙ sym e)) where
  go : (b : Bool) → b ≡ true → Single (if b then record { section = t.section; relocs = r ∷ t.relocs } ∷ [] else record { section = r.section; relocs = r ∷ [] } ∷ t ∷ [])
  go true k = h
  go false k = cc
single_more r (t ∷ u ∷ ts) e h = absurd h

singles : (ss : List Sym) (fs : List Fix) → Single (tables_of (map (relocation ss 1) fs))
singles ss [] = tt
singles ss (f ∷ fs) = single_more (relocation ss 1 f) (tables_of (map (relocation ss 1) fs)) refl (singles ss fs)

-- at most a table of the first section, then at most one of the second
abbrev Pair : List RelocTable → Type 0
Pair [] = Unit {0}
Pair (t ∷ ts) = ((t.section ≡ 0) × Single ts) ⊎ Single (t ∷ ts)

pair_from : (ts : List RelocTable) → Single ts → Pair ts
pair_from [] h = tt
pair_from (t ∷ ts) h = inr h

pair_more : (r : Rel) (ts : List RelocTable) → r.section ≡ 0 → Pair ts → Pair (joined r ts)
pair_more r [] e h = inl (e, tt)
pair_more r (t ∷ ts) e (inl h) = go (r.section == t.section) (same t.section r.section (h.0 ∙ sym e)) where
  go : (b : Bool) → b ≡ true → Pair (if b then record { section = t.section; relocs = r ∷ t.relocs } ∷ ts else record { section = r.section; relocs = r ∷ [] } ∷ t ∷ ts)
  go true k = inl h
  go false k = cc
pair_more r (t ∷ []) e (inr h) = go (r.section == t.section) (grind (arith, nat_tests)) where
  go : (b : Bool) → b ≡ false → Pair (if b then record { section = t.section; relocs = r ∷ t.relocs } ∷ [] else record { section = r.section; relocs = r ∷ [] } ∷ t ∷ [])
  go true k = cc
  go false k = inl (e, h)
pair_more r (t ∷ u ∷ ts) e (inr h) = absurd h

pairs : (ss : List Sym) (fs gs : List Fix) → Pair (tables_of (map (relocation ss 0) fs ++ map (relocation ss 1) gs))
pairs ss [] gs = pair_from (tables_of (map (relocation ss 1) gs)) (singles ss gs)
pairs ss (f ∷ fs) gs = pair_more (relocation ss 0 f) (tables_of (map (relocation ss 0) fs ++ map (relocation ss 1) gs)) refl (pairs ss fs gs)

single_few : (ts : List RelocTable) → Single ts → length ts ≤ 1
single_few [] h = omega arith
single_few (t ∷ []) h = omega arith
single_few (t ∷ u ∷ ts) h = absurd h

pair_few : (ts : List RelocTable) → Pair ts → length ts ≤ 2
pair_few [] h = omega arith
pair_few (t ∷ ts) (inl h) = let n = single_few ts h.1 in omega arith
pair_few (t ∷ ts) (inr h) = let n = single_few (t ∷ ts) h in omega arith

-- ---- the file's length
names_len : (ps : List Placed) (ss : List Sym) → All (GoodSym ps) ss → length (flat_map sym_name ss) ≤ 256 * length ss
names_len ps [] h = omega arith
names_len ps (s ∷ ss) h =
    let g : GoodSym ps s = All-head (GoodSym ps) s ss h in
    let n = g.sound.name.size in
    let a = length-append (sym_name s) (flat_map sym_name ss) in
    let b = length-append s.name (0 ∷ []) in
    let r = names_len ps ss (All-tail (GoodSym ps) s ss h) in
    omega arith

few_relocations : (ps : List Placed) → Small ps → length (relocations ps) ≤ most_names
unfolding relocations
few_relocations ps m =
    let n1 = length-append (map (relocation (symbols ps) 0) (fixes 0 ps)) (map (relocation (symbols ps) 1) (fixes 1 ps)) in
    let n2 = length-map (fixes 0 ps) (relocation (symbols ps) 0) in
    let n3 = length-map (fixes 1 ps) (relocation (symbols ps) 1) in
    let n4 = m.relocs in
    omega arith

few_tables : (ps : List Placed) → length (tables_of (relocations ps)) ≤ 2
unfolding relocations
few_tables ps = pair_few _ (pairs (symbols ps) (fixes 0 ps) (fixes 1 ps))

content_len : (ps : List Placed) → length (flat_map sect_content (two ps)) ≡ size 0 ps + size 1 ps
content_len ps =
    let a = length-append (section_bytes 0 ps) (section_bytes 1 ps ++ []) in
    let nil : List ℕ = [] in
    let b = length-append (section_bytes 1 ps) nil in
    omega arith

sect_names_len : (ps : List Placed) → length (flat_map sect_name (two ps)) ≡ 22
unfolding prefix_of
sect_names_len ps = refl

short_file : (ps : List Placed) → Sound ps → All (GoodSym ps) (symbols ps) → length (file_of (module_of ps)) < 2 ^ 32
unfolding module_of
short_file ps a ys =
    let m = small ps a.small in
    let t = m.text in
    let d = m.data_size in
    let f = length_formula (module_of ps) in
    let c = content_len ps in
    let n = names_len ps (symbols ps) ys in
    let k = few_symbols ps a in
    let r = few_relocations ps m in
    let w = sect_names_len ps in
    let h = few_tables ps in
    omega arith

-- ---- the module
module_sound : (ps : List Placed) → Sound ps → All (GoodSym ps) (symbols ps) → IsModule (module_of ps)
unfolding module_of relocations
module_sound ps a ys =
    let m = small ps a.small in
    let k = few_symbols ps a in
    let r = few_relocations ps m in
    record {
      few_sections = omega arith;
      few_symbols = omega arith;
      few_relocs = omega arith;
      sections = All-cons IsSect (section_of (codes ".text") 6 (section_bytes 0 ps)) (section_of (codes ".data") 3 (section_bytes 1 ps) ∷ []) (sect_text ps m)
          (All-cons IsSect (section_of (codes ".data") 3 (section_bytes 1 ps)) [] (sect_data ps m) (All-nil IsSect));
      symbols = All_then (GoodSym ps) (IsSym (two ps)) (symbols ps) (λ s g. g.sound) ys;
      relocs = All-append (IsRel (two ps) (symbols ps)) (map (relocation (symbols ps) 0) (fixes 0 ps)) (map (relocation (symbols ps) 1) (fixes 1 ps)) (good_rels ps 0 (omega arith) ys a.in_text) (good_rels ps 1 (omega arith) ys a.in_data);
    }

sound_builds : (ps : List Placed) → Sound ps → Buildable (module_of ps)
unfolding module_of relocations
sound_builds ps a =
    let ys = good_symbols ps a in
    let h = few_tables ps in
    record {
      sound = module_sound ps a ys;
      here = All_then (GoodSym ps) IsHere (symbols ps) (λ s g. g.here) ys;
      rising = rises_both (symbols ps) (fixes 0 ps) (fixes 1 ps);
      few_headers = omega arith;
      short = short_file ps a ys;
      sections_fit = All-cons SectFits (section_of (codes ".text") 6 (section_bytes 0 ps)) (section_of (codes ".data") 3 (section_bytes 1 ps) ∷ []) (omega arith)
          (All-cons SectFits (section_of (codes ".data") 3 (section_bytes 1 ps)) [] (omega arith) (All-nil SectFits));
      symbols_fit = All_then (GoodSym ps) SymFits (symbols ps) (λ s g. g.fits) ys;
      relocs_fit = All-append RelFits (map (relocation (symbols ps) 0) (fixes 0 ps)) (map (relocation (symbols ps) 1) (fixes 1 ps)) (fit_rels ps 0 a.in_text) (fit_rels ps 1 a.in_data);
    }

same_module : (r : Result Module (ℕ × Cause)) (x y : Module) → r ≡ Ok x → r ≡ Ok y → x ≡ y
same_module r x y e f = cc

-- each assembled module has a file
pub builds : (text : List ℕ) (m : Module) → assembly text ≡ Ok m → Buildable m
unfolding assembly
builds text m e = go (items text) refl e where
  go : (r : Result (List Placed) (ℕ × Cause)) → items text ≡ r → module_or r ≡ Ok m → Buildable m
  go (Ok ps) h k = subst Buildable (same_module (module_or (Ok ps)) (module_of ps) m refl k) (sound_builds ps (sound_items text ps h))
  go (Err x) h k = cc
