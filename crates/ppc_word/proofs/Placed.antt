-- The fields of an instruction's word, by their places in its form.
use Rattle.std.proofs.Common.{◌≡◌, ℕ, ◌+◌, ◌-◌, ◌/◌, ◌%◌, ◌^◌, ◌<◌, ◌≤◌, Bool, true, List, [], ◌∷◌, ◌++◌, replicate, Some, refl, sym, ap, ◌∙◌, arith}
use Rattle.std.specs.Prelude.{map}
use Rattle.std.specs.List.{list_all}
use Rattle.ppc_word.specs.declared.row.Row.{Row}
use Rattle.ppc_word.specs.declared.insn.Insn.{Insn}
use Rattle.ppc_word.specs.declared.piece.Piece.{Piece}
use Rattle.ppc_word.specs.declared.piece.Piece.TheVariants.{Fixed, Field}
use Rattle.ppc_word.specs.Words.{bits, parts, fields, field_places}
use Rattle.ppc_word.specs.Table.{Form, table, no_form, number, form_of}
use Rattle.ppc_word.specs.Rows.{row_of, fields_of, word_with}
use Rattle.ppc_word.specs.Insn.{word_of}
use Rattle.ppc_word.proofs.Read.{whole-parts, written-lt}
use Rattle.ppc_word.proofs.Whole.{length-table, number-below, whole-at}
use Rattle.ppc_word.proofs.Masks.{list_all-at}
use Rattle.ppc_word.proofs.Unique.{insn-word_one, fields-parts}
use Rattle.ppc_word.proofs.Found.{row_of-insn, row-insn}

-- the number at a place of a word
abbrev pub at_place : ℕ → ℕ × ℕ → ℕ
at_place w p = w / 2 ^ (32 - (p.0 + p.1)) % 2 ^ p.1

placed-shift : (w b : ℕ) → w + b ≤ 32 → 32 - ((32 - (w + b)) + w) ≡ b
placed-shift w b h = omega arith

-- the fields of a word are the numbers at their places
pub parts-placed : (ps : List Piece) (n : ℕ) → bits ps ≤ 32 → parts ps n ≡ map (at_place n) (field_places ps)
parts-placed [] n h = refl
parts-placed (Fixed w v ∷ ps) n h = parts-placed ps n (omega arith)
parts-placed (Field w ∷ ps) n h =
    let rest = parts-placed ps n (omega arith) in
    rw (placed-shift w (bits ps) h, rest) refl

pub word_of-lt : (i : Insn) → word_of i < 2 ^ 32
unfolding word_with
word_of-lt i =
    written-lt (form_of i.row).pieces i.fields (whole-at (number i.row) (number-below i.row)) (fields-parts i.row i.fields i.in_table).1

-- an instruction's fields are those of its word
pub insn-fields : (i : Insn) → i.fields ≡ fields_of i.row (word_of i)
insn-fields i =
    let e = row_of-insn i (word_of i) refl in
    let a = row-insn i.row (word_of i) (fields_of i.row (word_of i)) (word_of-lt i) e refl in
    let j : Insn = record { row = i.row; fields = fields_of i.row (word_of i); in_table = a.0 } in
    ap (λ (k : Insn). k.fields) (insn-word_one i j (sym a.1))

-- a word with a row is the word of an instruction
pub row-word : (row : Row) (w : ℕ) → w < 2 ^ 32 → row_of w ≡ Some row → (i : Insn) × (word_of i ≡ w)
row-word row w lt e =
    let a = row-insn row w (fields_of row w) lt e refl in
    (record { row = row; fields = fields_of row w; in_table = a.0 }, a.1)

-- its fields are the numbers at the places of its form, then zeros
pub insn-placed : (i : Insn) → i.fields ≡ map (at_place (word_of i)) (field_places (form_of i.row).pieces) ++ replicate (6 - fields (form_of i.row).pieces) 0
insn-placed i =
    let ps = (form_of i.row).pieces in
    let t = whole-parts ps (whole-at (number i.row) (number-below i.row)) in
    insn-fields i ∙ ap (λ fs. fs ++ replicate (6 - fields ps) 0) (parts-placed ps (word_of i) (omega (arith, t.0)))

-- a test that all forms of the table pass is passed by each instruction's form
pub form-test : (test : Form → Bool) → list_all test table ≡ true → (row : Row) → test (form_of row) ≡ true
form-test test all row = list_all-at test table (number row) no_form all (omega (arith, number-below row, length-table))
