-- The tests of the table that the checker computes, and what they say about each form.
use Rattle.std.proofs.Common.{◌≡◌, ℕ, zero, suc, ◌+◌, ◌%◌, ◌^◌, ◌<◌, ◌≤◌, Bool, true, ◌&&◌, nat_eq, nat_le, List, [], ◌∷◌, length, get_or, map, IsTrue, refl, sym, ap, ◌∙◌, arith, eqb-true, leb-true, zero-add, bit_and}
use Rattle.std.specs.List.{list_all}
use Rattle.std.proofs.lemmas.Bool.{and_parts}
use Rattle.std.proofs.lemmas.List.{length-map, get_or-map}
use denote.Enum.Enum.{tag_below}
use denote.Enum.Bare.{tag_one}
use denote.Enum.Declared.{rowss, tag_of}
use Rattle.ppc_word.specs.declared.row.Row.{Row}
use Rattle.ppc_word.specs.declared.row.TheConstants.{ROWS}
use Rattle.ppc_word.specs.contracts.row.Row.{the_type}
use Rattle.ppc_word.specs.declared.pattern.Pattern.{Pattern}
use Rattle.ppc_word.specs.declared.pattern.TheConstants.{PATTERNS}
use Rattle.ppc_word.specs.Words.{bits, whole, meets}
use Rattle.ppc_word.specs.Table.{Form, table, number, no_form, form_at}
use Rattle.ppc_word.specs.Patterns.{mask, held, pattern_of, pieces_of}
use Rattle.ppc_word.proofs.Masks.{all_apart, all_apart-at, list_all-at, apart, key, not-apart, held-meets, meets-held}
use Rattle.ppc_word.proofs.Read.{whole-parts}

-- each form is at its instruction's number
unfoldable numbered : ℕ → List Form → Bool
numbered k [] = true
numbered k (f ∷ fs) = nat_eq (tag_of the_type f.row) k && numbered (suc k) fs

numbered-at : (k : ℕ) (fs : List Form) (i : ℕ) (d : Form) → numbered k fs ≡ true → i < length fs → tag_of the_type (get_or fs i d).row ≡ k + i
unfolding numbered
numbered-at k [] i d h lt = absurd (omega arith)
numbered-at k (f ∷ fs) zero d h lt = let b = and_parts (nat_eq (tag_of the_type f.row) k) (numbered (suc k) fs) h in eqb-true _ _ b.0 ∙ omega arith
numbered-at k (f ∷ fs) (suc i) d h lt =
    let b = and_parts (nat_eq (tag_of the_type f.row) k) (numbered (suc k) fs) h in
    numbered-at (suc k) fs i d b.1 (omega arith) ∙ omega arith

-- a form is a whole word, in at most eight pieces
abbrev is_kept : Form → Bool
is_kept f = whole f.pieces && nat_le (length f.pieces) 8

unfoldable pub keys : List (ℕ × ℕ)
keys = map (λ f. key f.pieces) table

table_numbered : numbered 0 table ≡ true
unfolding numbered table
table_numbered = refl

all_kept : list_all is_kept table ≡ true
unfolding table
all_kept = refl

keys_apart : all_apart keys ≡ true
unfolding keys table all_apart apart mask held
keys_apart = refl

-- the code's patterns are those of the forms
patterns_kept : PATTERNS ≡ map pattern_of table
unfolding table mask held
patterns_kept = refl

-- the pieces of a pattern are those of its form
pieces_kept : map (λ f. pieces_of (pattern_of f)) table ≡ map (λ f. f.pieces) table
unfolding table
pieces_kept = refl

pub length-table : length table ≡ ROWS
unfolding table
length-table = refl

pub length-keys : length keys ≡ ROWS
unfolding keys
length-keys = length-map table (λ f. key f.pieces) ∙ length-table

pub pattern-at : (k : ℕ) (d : Pattern) → k < ROWS → get_or PATTERNS k d ≡ pattern_of (form_at k)
pattern-at k d h = ap (λ ps. get_or ps k d) patterns_kept ∙ get_or-map pattern_of table k no_form d (omega (arith, length-table))

pub pieces_of-at : (k : ℕ) → k < ROWS → pieces_of (pattern_of (form_at k)) ≡ (form_at k).pieces
pieces_of-at k h =
    let lt : k < length table = omega (arith, length-table) in
    sym (get_or-map (λ f. pieces_of (pattern_of f)) table k no_form [] lt) ∙ ap (λ ps. get_or ps k []) pieces_kept ∙ get_or-map (λ f. f.pieces) table k no_form [] lt

pub number-below : (row : Row) → number row < ROWS
unfolding number
number-below row = tag_below (rowss the_type.parts) (the_type.to row)

-- the instruction at a place has that number
pub number-row : (k : ℕ) → k < ROWS → number (form_at k).row ≡ k
unfolding number
number-row k h = numbered-at 0 table k no_form table_numbered (omega (arith, length-table)) ∙ zero-add k

pub number-one : (r s : Row) → number r ≡ number s → r ≡ s
unfolding number
number-one r s e = tag_one the_type tt r s e

kept-at : (k : ℕ) → k < ROWS → is_kept (form_at k) ≡ true
kept-at k h = list_all-at is_kept table k no_form all_kept (omega (arith, length-table))

pub whole-at : (k : ℕ) → k < ROWS → IsTrue (whole (form_at k).pieces)
whole-at k h = (and_parts (whole (form_at k).pieces) (nat_le (length (form_at k).pieces) 8) (kept-at k h)).0

pub pieces-le : (k : ℕ) → k < ROWS → length (form_at k).pieces ≤ 8
pieces-le k h = leb-true _ _ (and_parts (whole (form_at k).pieces) (nat_le (length (form_at k).pieces) 8) (kept-at k h)).1

pub key-at : (k : ℕ) (d : ℕ × ℕ) → k < ROWS → get_or keys k d ≡ key (form_at k).pieces
unfolding keys
key-at k d h = get_or-map (λ f. key f.pieces) table k no_form d (omega (arith, length-table))

-- a word matches the form at a place exactly if it has the values fixed there
pub held-at : (k n : ℕ) → k < ROWS → meets (form_at k).pieces n ≡ true → bit_and (n % 2 ^ 32) (mask (form_at k).pieces) ≡ held (form_at k).pieces
held-at k n h m =
    let e = held-meets (form_at k).pieces n m in
    let t = (whole-parts (form_at k).pieces (whole-at k h)).0 in rw t at e

pub meets-at : (k n : ℕ) → k < ROWS → n < 2 ^ 32 → bit_and n (mask (form_at k).pieces) ≡ held (form_at k).pieces → meets (form_at k).pieces n ≡ true
meets-at k n h lt e =
    let t = whole-parts (form_at k).pieces (whole-at k h) in
    let m : n % 2 ^ bits (form_at k).pieces ≡ n = rw t.0 (omega arith) in
    meets-held (form_at k).pieces n t.2 (rw m e)

-- a word matches the form of only one place
pub one_place : (i j n : ℕ) → i < j → j < ROWS → meets (form_at i).pieces n ≡ true → meets (form_at j).pieces n ≡ true → ⊥
one_place i j n lt below p q =
    let a = all_apart-at keys i j (0, 0) keys_apart lt (omega (arith, length-keys)) in
    let b = rw (key-at i (0, 0) (omega arith), key-at j (0, 0) below) at a in
    not-apart (n % 2 ^ 32) (mask (form_at i).pieces) (held (form_at i).pieces) (mask (form_at j).pieces) (held (form_at j).pieces) (held-at i n (omega arith) p) (held-at j n below q) b
