-- The loaded sections of a built file.
use Rattle.std.proofs.Common.{◌≡◌, ℕ, zero, suc, ◌+◌, ◌*◌, ◌<◌, ◌≤◌, ◌^◌, List, [], ◌∷◌, ◌++◌, length, get_or, refl, sym, ◌∙◌, ap, subst, arith, add-zero, true, false, nat_le, nat_lt, Ok}
use Rattle.std.specs.Prelude.{◌==◌, ◌&&◌, ◌||◌, not, if◌then◌else◌, bit_and}
use Rattle.std.specs.List.{All, flat_map}
use Rattle.elf_read.specs.declared.error.ElfErr.{ElfErr}
use Rattle.elf_read.specs.declared.error.ElfErr.TheVariants.{Short, BadSection}
use Rattle.elf_read.specs.declared.module.Body.{Body}
use Rattle.elf_read.specs.declared.module.Body.TheVariants.{Bytes, Size}
use Rattle.elf_read.specs.declared.module.Sect.{Sect}
use Rattle.elf_read.specs.declared.entries.SectionHeader.{SectionHeader}
use Rattle.elf_read.specs.Places.{half, word, part}
use Rattle.elf_read.specs.Rule.{Rule, ◌and_then◌, unless, when, each}
use Rattle.elf_read.specs.Numbered.{gathered}
use Rattle.elf_read.specs.Rules.{has_content, content_rule, name_rule, is_loadable, load_rule, is_alignment}
use Rattle.elf_read.specs.Tables.{header, header_offset, content, is_loaded, has_name, section_names}
use Rattle.elf_read.specs.Contents.{name_at, sect_of, sects_at}
use Rattle.elf_build.specs.Entries.{header_bytes, sect_header, kind_of, content_of, ended}
use Rattle.elf_read.specs.Modules.{size_of, IsName}
use Rattle.elf_build.specs.File.{sect_headers, prefix_of, sect_name, sect_content}
use Rattle.elf_build.proofs.Good.{GoodSect}
use Rattle.elf_read.proofs.AlignmentLemmas.{alignment_between}
use Rattle.elf_build.proofs.Stands.{Stands, stands_prefix, stands_suffix, part_is}
use Rattle.elf_build.proofs.EntryLemmas.{HeaderFits, header_is, length_header}
use Rattle.elf_build.proofs.Names.{or_true, and_true, not_false, differs, below, at_most, else_branch, then_branch, all_first, all_rest, name_is, name_there}

-- what is known of a file's headers and names
pub record Reads (bytes : List ℕ) (place count : ℕ) (names : List ℕ) : Type 0 where
  pub place_is : word bytes 32 ≡ place
  pub count_is : half bytes 48 ≡ count
  pub names_is : section_names bytes ≡ names
  pub short : length bytes < 2 ^ 32
  pub names_short : length names < 2 ^ 32

-- header number i is that of this section
pub record SectAt (bytes : List ℕ) (i : ℕ) (s : Sect) : Type 0 where
  pub loaded : is_loaded bytes i ≡ true
  pub same : sect_of bytes i ≡ s
  pub kind : (header bytes i).kind ≡ kind_of s.body
  pub size : (header bytes i).size ≡ size_of s.body
  pub content : content_rule bytes i ≡ Ok tt
  pub named : name_rule bytes i ≡ Ok tt
  pub loads : load_rule bytes i ≡ Ok tt

kind_low : (b : Body) → kind_of b ≤ 8
kind_low (Bytes bs) = omega arith
kind_low (Size n) = omega arith

body_is : (bytes : List ℕ) (at : ℕ) (b : Body) → Stands bytes at (content_of b) → (if kind_of b == 8 then Size (size_of b) else Bytes (part bytes at (size_of b))) ≡ b
body_is bytes at (Bytes bs) s = ap Bytes (part_is bytes at (length bs) bs s refl)
body_is bytes at (Size n) s = refl

content_ok : (b : Body) (at len : ℕ) (e : ElfErr) → at + length (content_of b) ≤ len → when (not (kind_of b == 0) && not (kind_of b == 8)) (unless (nat_le (at + size_of b) len) e) ≡ Ok tt
content_ok (Bytes bs) at len e h = ap (λ b. unless b e) (at_most (at + length bs) len h)
content_ok (Size n) at len e h = refl

kind_ok : (b : Body) → (kind_of b == 1 || (kind_of b == 7 || kind_of b == 8)) ≡ true
kind_ok (Bytes bs) = refl
kind_ok (Size n) = refl

same_sect : (a s : Sect) → a.name ≡ s.name → a.flags ≡ s.flags → a.align ≡ s.align → a.body ≡ s.body → a ≡ s
same_sect a s p1 p2 p3 p4 = λ i. record { name = p1 i; flags = p2 i; align = p3 i; body = p4 i }

fits : (bytes names : List ℕ) (place count name at : ℕ) (s : Sect) → Reads bytes place count names → Stands names name (ended s.name) → Stands bytes at (sect_content s) → GoodSect s → HeaderFits (sect_header name at s)
unfolding sect_header
fits bytes names place count name at s r n c good =
    let p = alignment_between s.align good.sound.align in
    let p1 = p.1 in
    let w1 = n.within in
    let w2 = c.within in
    let s1 = r.short in
    let s2 = r.names_short in
    let k = kind_low s.body in
    let z = good.sound.size in
    record { name = omega arith; kind = omega arith; flags = good.flags; offset = omega arith; size = omega arith; link = omega arith; info = omega arith; align = omega arith; entry_size = omega arith }

loaded_by : (bytes : List ℕ) (i count : ℕ) (h : SectionHeader) → half bytes 48 ≡ count → i < count → header bytes i ≡ h → (bit_and h.flags 2 == 0) ≡ false → is_loaded bytes i ≡ true
unfolding is_loaded
loaded_by bytes i count h c l e f =
    and_true (nat_lt i (half bytes 48)) (not (bit_and (header bytes i).flags 2 == 0))
    (below i (half bytes 48) (omega arith))
    (not_false (bit_and (header bytes i).flags 2 == 0) (ap (λ x. bit_and x.flags 2 == 0) e ∙ f))

same_by : (bytes names : List ℕ) (i name at : ℕ) (s : Sect) → section_names bytes ≡ names → header bytes i ≡ sect_header name at s → Stands names name (ended s.name) → Stands bytes at (sect_content s) → GoodSect s → sect_of bytes i ≡ s
unfolding sect_of sect_header content
same_by bytes names i name at s ns e n c good =
    let p = alignment_between s.align good.sound.align in
    let p0 = p.0 in
    same_sect (sect_of bytes i) s
    (ap (λ x. name_at x (header bytes i).name) ns ∙ (ap (λ x. name_at names x.name) e ∙ name_is names name s.name n good.sound.name))
    (ap (λ x. x.flags) e)
    (ap (λ x. if x.align == 0 then 1 else x.align) e ∙ else_branch (s.align == 0) 1 s.align (differs s.align 0 (λ z. omega arith)))
    (ap (λ x. if x.kind == 8 then Size x.size else Bytes (part bytes x.offset x.size)) e ∙ body_is bytes at s.body c)

loads_by : (bytes : List ℕ) (i name at : ℕ) (s : Sect) → header bytes i ≡ sect_header name at s → is_loaded bytes i ≡ true → GoodSect s → load_rule bytes i ≡ Ok tt
unfolding sect_header is_loadable
loads_by bytes i name at s e l good =
    let right : is_loadable (sect_header name at s) ≡ true =
    and_true (kind_of s.body == 1 || (kind_of s.body == 7 || kind_of s.body == 8)) ((bit_and s.flags 0xc00 == 0) && ((s.align == 0 || is_alignment s.align) && nat_le (size_of s.body) 16777216)) (kind_ok s.body)
    (and_true (bit_and s.flags 0xc00 == 0) ((s.align == 0 || is_alignment s.align) && nat_le (size_of s.body) 16777216) good.sound.plain
    (and_true (s.align == 0 || is_alignment s.align) (nat_le (size_of s.body) 16777216) (or_true (s.align == 0) (is_alignment s.align) good.sound.align) (at_most (size_of s.body) 16777216 good.sound.size))) in
    ap (λ b. when b (unless (is_loadable (header bytes i)) (BadSection (header_offset bytes i)))) l
    ∙ (ap (λ h. unless (is_loadable h) (BadSection (header_offset bytes i))) e
    ∙ ap (λ b. unless b (BadSection (header_offset bytes i))) right)

content_by : (bytes : List ℕ) (i name at : ℕ) (s : Sect) → header bytes i ≡ sect_header name at s → Stands bytes at (sect_content s) → content_rule bytes i ≡ Ok tt
unfolding sect_header has_content
content_by bytes i name at s e c =
    ap (λ h. when (has_content h) (unless (nat_le (h.offset + h.size) (length bytes)) (Short (header_offset bytes i + 16)))) e
    ∙ content_ok s.body at (length bytes) (Short (header_offset bytes i + 16)) c.within

named_by : (bytes names : List ℕ) (i name : ℕ) (h : SectionHeader) (text : List ℕ) → section_names bytes ≡ names → header bytes i ≡ h → h.name ≡ name → Stands names name (ended text) → IsName text → name_rule bytes i ≡ Ok tt
named_by bytes names i name h text ns e at n good =
    ap (λ x. unless (has_name x (header bytes i).name) (BadSection (header_offset bytes i))) ns
    ∙ (ap (λ k. unless (has_name names k) (BadSection (header_offset bytes i))) (ap (λ x. x.name) e ∙ at)
    ∙ ap (λ b. unless b (BadSection (header_offset bytes i))) (name_there names name text n good))

pub sect_is : (bytes names : List ℕ) (place count i name at : ℕ) (s : Sect) → Reads bytes place count names → i < count → Stands bytes (place + 40 * i) (header_bytes (sect_header name at s)) → Stands names name (ended s.name) → Stands bytes at (sect_content s) → GoodSect s → SectAt bytes i s
unfolding sect_header
sect_is bytes names place count i name at s r l h n c good =
    let e : header bytes i ≡ sect_header name at s = header_is bytes place i (sect_header name at s) r.place_is h (fits bytes names place count name at s r n c good) in
    let loaded = loaded_by bytes i count (sect_header name at s) r.count_is l e good.sound.loaded in
    record {
      loaded = loaded;
      same = same_by bytes names i name at s r.names_is e n c good;
      kind = ap (λ x. x.kind) e;
      size = ap (λ x. x.size) e;
      content = content_by bytes i name at s e c;
      named = named_by bytes names i name (sect_header name at s) s.name r.names_is e refl n good.sound.name;
      loads = loads_by bytes i name at s e loaded good;
    }

-- ---- all of them

-- P holds for each item and its number, from number i on
abbrev pub AllAt : {X : Type 0} → (ℕ → X → Type 0) → ℕ → List X → Type 0
AllAt P i [] = Unit {0}
AllAt P i (x ∷ xs) = P i x × AllAt P (i + 1) xs

pub sects_are : (bytes names : List ℕ) (place count i name at : ℕ) (ss : List Sect) → Reads bytes place count names → i + length ss ≤ count → Stands bytes (place + 40 * i) (sect_headers name at ss) → Stands names name (flat_map sect_name ss) → Stands bytes at (flat_map sect_content ss) → All GoodSect ss → AllAt (SectAt bytes) i ss
sects_are bytes names place count i name at [] r l h n c good = tt
sects_are bytes names place count i name at (s ∷ ss) r l h n c good =
    let own = name + length (prefix_of s) in
    let here = header_bytes (sect_header own at s) in
    let size = length_header (sect_header own at s) in
    let entry = stands_prefix names name (sect_name s) (flat_map sect_name ss) n in
    let headers = sect_headers (name + length (sect_name s)) (at + length (sect_content s)) ss in
    let next = stands_suffix bytes (place + 40 * i) (place + 40 * (i + 1)) here headers h (omega arith) in
    let names_next = stands_suffix names name (name + length (sect_name s)) (sect_name s) (flat_map sect_name ss) n refl in
    let content_next = stands_suffix bytes at (at + length (sect_content s)) (sect_content s) (flat_map sect_content ss) c refl in (
      sect_is bytes names place count i own at s r (omega arith)
          (stands_prefix bytes (place + 40 * i) here headers h)
          (stands_suffix names name own (prefix_of s) (ended s.name) entry refl)
          (stands_prefix bytes at (sect_content s) (flat_map sect_content ss) c)
          (all_first GoodSect s ss good),
      sects_are bytes names place count (i + 1) (name + length (sect_name s)) (at + length (sect_content s)) ss r (omega arith) next names_next content_next (all_rest GoodSect s ss good),
    )

-- ---- what follows

pub gathered_are : {X : Type 0} (P : ℕ → X → Type 0) (f : ℕ → List X) (i : ℕ) (xs : List X) → ((j : ℕ) (x : X) → P j x → f j ≡ x ∷ []) → AllAt P i xs → gathered i (length xs) f ≡ xs
gathered_are P f i [] go all = refl
gathered_are P f i (x ∷ xs) go (one, others) = ap (λ ys. ys ++ gathered (i + 1) (length xs) f) (go i x one) ∙ ap (λ ys. x ∷ ys) (gathered_are P f (i + 1) xs go others)

pub each_are : {X : Type 0} (P : ℕ → X → Type 0) (rule : ℕ → Rule) (i : ℕ) (xs : List X) → ((j : ℕ) (x : X) → P j x → rule j ≡ Ok tt) → AllAt P i xs → each i (length xs) rule ≡ Ok tt
each_are P rule i [] go all = refl
each_are P rule i (x ∷ xs) go (one, others) = ap (λ r. r and_then each (i + 1) (length xs) rule) (go i x one) ∙ each_are P rule (i + 1) xs go others

pub at_number : {X : Type 0} (P : ℕ → X → Type 0) (i k : ℕ) (xs : List X) (d : X) → AllAt P i xs → k < length xs → P (i + k) (get_or xs k d)
at_number P i k [] d all h = absurd (omega arith)
at_number P i zero (x ∷ xs) d (one, others) h = subst (λ n. P n x) (sym (add-zero i)) one
at_number P i (suc k) (x ∷ xs) d (one, others) h =
    let e : i + 1 + k ≡ i + suc k = omega arith in
    subst (λ n. P n (get_or xs k d)) e (at_number P (i + 1) k xs d others (omega arith))

pub sects_gathered : (bytes : List ℕ) (i : ℕ) (ss : List Sect) → AllAt (SectAt bytes) i ss → gathered i (length ss) (sects_at bytes) ≡ ss
sects_gathered bytes i ss all =
    gathered_are (SectAt bytes) (sects_at bytes) i ss
    (λ j s h. then_branch (is_loaded bytes j) (sect_of bytes j ∷ []) [] h.loaded ∙ ap (λ x. x ∷ []) h.same) all
