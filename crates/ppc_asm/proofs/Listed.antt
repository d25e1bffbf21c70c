-- Lines that are written to a sink, one after another.
use Rattle.std.proofs.Common.{◌≡◌, ℕ, ◌+◌, ◌≤◌, ◌<◌, Bool, true, false, not, ◌&&◌, List, [], ◌∷◌, ◌++◌, Option, Some, length, drop, refl, ap, sym, ◌∙◌, append_assoc, arith}
use Rattle.std.specs.Prelude.{slice_index, bit_and, if◌then◌else◌, ◌==◌, ◌-◌}
use Rattle.std.specs.Int.{from_be_bytes, w32}
use Rattle.std.specs.List.{flat_map}
use Rattle.std.proofs.lemmas.List.{append-nil}
use Rattle.elf_read.specs.Contents.{module_at, sect_of, sects_at}
use Rattle.elf_read.specs.Numbered.{gathered}
use Rattle.elf_read.specs.Standard.{sht_nobits}
use Rattle.elf_read.specs.Tables.{content, header, header_count, is_loaded}
use Rattle.elf_read.specs.declared.module.Body.TheVariants.{Bytes, Size}
use Rattle.elf_read.specs.declared.module.Sect.{Sect}
use Rattle.elf_read.proofs.Gather.{gathered_empty, gathered_more}
use Rattle.ppc_word.specs.declared.insn.Insn.{Insn}
use Rattle.ppc_word.specs.declared.row.Row.{Row}
use Rattle.ppc_word.specs.Rows.{row_of, fields_of}
use Rattle.ppc_text.specs.Mnemonics.{named_as}
use Rattle.ppc_text.specs.Shown.{text_with, text_of}
use Rattle.ppc_asm.specs.Listing.{item_text, body_lines, is_listed_at, line_text, lines_from, listing, section_lines}

-- an instruction's text is that of its word
pub shown_as : (i : Insn) (w : ℕ) → Some i.row ≡ row_of w → i.fields ≡ fields_of i.row w → text_of i ≡ item_text (row_of w) w
unfolding text_of
shown_as i w r f = ap (text_with (named_as i.row)) f ∙ ap (λ (o : Option Row). item_text o w) r

-- ---- a line
-- one more piece of a line
pub then_piece : (x p q a b : List ℕ) → a ≡ x ++ p → b ≡ a ++ q → b ≡ x ++ (p ++ q)
then_piece x p q a b e h = h ∙ ap (λ k. k ++ q) e ∙ append_assoc x p q

-- the line of the next four bytes
next_line : (offset : ℕ) (bs : List ℕ) → 4 ≤ length bs
    → lines_from offset bs ≡ line_text offset (from_be_bytes w32 (slice_index bs 0 ∷ slice_index bs 1 ∷ slice_index bs 2 ∷ slice_index bs 3 ∷ [])) ++ lines_from (offset + 4) (drop 4 bs)
next_line offset [] h = absurd (omega arith)
next_line offset (a ∷ []) h = absurd (omega arith)
next_line offset (a ∷ b ∷ []) h = absurd (omega arith)
next_line offset (a ∷ b ∷ c ∷ []) h = absurd (omega arith)
next_line offset (a ∷ b ∷ c ∷ d ∷ bs) h = refl

pub line_next : (offset : ℕ) (bs line left : List ℕ) (w : ℕ) → 4 ≤ length bs → line ≡ line_text offset w
    → w ≡ from_be_bytes w32 (slice_index bs 0 ∷ slice_index bs 1 ∷ slice_index bs 2 ∷ slice_index bs 3 ∷ []) → left ≡ drop 4 bs → line ++ lines_from (offset + 4) left ≡ lines_from offset bs
line_next offset bs line left w h e f d =
    ap (λ t. t ++ lines_from (offset + 4) left) (e ∙ ap (line_text offset) f)
    ∙ ap (λ ds. line_text offset (from_be_bytes w32 (slice_index bs 0 ∷ slice_index bs 1 ∷ slice_index bs 2 ∷ slice_index bs 3 ∷ [])) ++ lines_from (offset + 4) ds) d
    ∙ sym (next_line offset bs h)

pub no_line : (offset : ℕ) (bs : List ℕ) → length bs < 4 → lines_from offset bs ≡ []
no_line offset [] h = refl
no_line offset (a ∷ []) h = refl
no_line offset (a ∷ b ∷ []) h = refl
no_line offset (a ∷ b ∷ c ∷ []) h = refl
no_line offset (a ∷ b ∷ c ∷ d ∷ bs) h = absurd (omega arith)

-- ---- a list in two halves
pub flat_both : {A B : Type 0} (f : A → List B) (xs ys : List A) → flat_map f (xs ++ ys) ≡ flat_map f xs ++ flat_map f ys
flat_both f [] ys = refl
flat_both f (x ∷ xs) ys = ap (λ t. f x ++ t) (flat_both f xs ys) ∙ sym (append_assoc (f x) (flat_map f xs) (flat_map f ys))

-- ---- sections
by_loaded : (l : Bool) (f : Sect → List ℕ) (s : Sect) → flat_map f (if l then s ∷ [] else []) ≡ (if l then f s else [])
by_loaded true f s = append-nil (f s)
by_loaded false f s = refl

by_kind : (l k e : Bool) (n : ℕ) (c : List ℕ) → (if l then (if e then [] else body_lines (if k then Size n else Bytes c)) else []) ≡ lines_from 0 (if l && (not k && not e) then c else [])
by_kind true true true n c = refl
by_kind true true false n c = refl
by_kind true false true n c = refl
by_kind true false false n c = refl
by_kind false k e n c = refl

pub section_listed : (bytes : List ℕ) (i : ℕ) → flat_map section_lines (sects_at bytes i) ≡ lines_from 0 (if is_listed_at bytes i then content bytes i else [])
unfolding section_lines sect_of
section_listed bytes i =
    by_loaded (is_loaded bytes i) section_lines (sect_of bytes i)
    ∙ by_kind (is_loaded bytes i) ((header bytes i).kind == sht_nobits) (bit_and (header bytes i).flags 4 == 0) (header bytes i).size (content bytes i)

-- the bytes of a section that is listed, and none of one that isn't
pub lines_listed : (bytes own : List ℕ) (i : ℕ) (b : Bool) → b ≡ is_listed_at bytes i → own ≡ (if b then content bytes i else []) → lines_from 0 own ≡ flat_map section_lines (sects_at bytes i)
lines_listed bytes own i b e is = ap (lines_from 0) (is ∙ ap (λ x. if x then content bytes i else []) e) ∙ sym (section_listed bytes i)

-- the lines from section number i on
abbrev pub lines_on : List ℕ → ℕ → ℕ → List ℕ
lines_on bytes i n = flat_map section_lines (gathered i (n - i) (sects_at bytes))

pub listing_is : (bytes : List ℕ) (n : ℕ) → n ≡ header_count bytes → lines_on bytes 0 n ≡ listing (module_at bytes)
unfolding listing module_at
listing_is bytes n e = let same : n - 0 ≡ header_count bytes = omega (arith, e) in ap (λ k. flat_map section_lines (gathered 0 k (sects_at bytes))) same

pub section_next : (bytes lines : List ℕ) (i n : ℕ) → i < n → lines ≡ flat_map section_lines (sects_at bytes i) → lines ++ lines_on bytes (i + 1) n ≡ lines_on bytes i n
section_next bytes lines i n lt e =
    ap (λ t. t ++ lines_on bytes (i + 1) n) e
    ∙ sym (flat_both section_lines (sects_at bytes i) (gathered (i + 1) (n - (i + 1)) (sects_at bytes)))
    ∙ ap (flat_map section_lines) (sym (gathered_more i n (sects_at bytes) lt))

pub no_section : (bytes : List ℕ) (i n : ℕ) → n ≤ i → lines_on bytes i n ≡ []
no_section bytes i n le = ap (flat_map section_lines) (gathered_empty i n (sects_at bytes) le)
