-- The row that a word matches is that of its instruction.
use Rattle.std.proofs.Common.{◌≡◌, ℕ, zero, suc, ◌%◌, ◌^◌, ◌<◌, Bool, true, false, cond, ◌&&◌, nat_eq, List, [], ◌∷◌, length, get_or, Option, Some, None, IsTrue, refl, sym, ap, ◌∙◌, arith, eqb-true, eq-eqb, inl, inr, bit_and}
use Rattle.std.proofs.lemmas.Bool.{and_parts, cases_order}
use Rattle.ppc_word.specs.declared.row.Row.{Row}
use Rattle.ppc_word.specs.declared.row.TheConstants.{ROWS}
use Rattle.ppc_word.specs.declared.insn.Insn.{Insn}
use Rattle.ppc_word.specs.Words.{meets}
use Rattle.ppc_word.specs.Rules.{allowed}
use Rattle.ppc_word.specs.Table.{Form, table, number, no_form, form_at}
use Rattle.ppc_word.specs.Patterns.{mask, held}
use Rattle.ppc_word.specs.Insn.{word_of}
use Rattle.ppc_word.specs.Rows.{is_word_of, first_row, row_of, are_fields, word_with, fields_of}
use Rattle.ppc_word.proofs.Whole.{number-below, number-row, number-one, length-table, one_place, held-at, meets-at}
use Rattle.ppc_word.proofs.Unique.{insn-word, IsReading, reading-fields, reading-made}

found-row : (fs : List Form) (w : ℕ) (r : Row) → first_row fs w ≡ Some r → (k : ℕ) × (k < length fs) × ((get_or fs k no_form).row ≡ r) × (is_word_of (get_or fs k no_form) w ≡ true)
unfolding first_row
found-row [] w r e = cc
found-row (f ∷ fs) w r e = go (is_word_of f w) refl e (found-row fs w r) where
  go : (t : Bool) → is_word_of f w ≡ t → cond t (Some f.row) (first_row fs w) ≡ Some r → (first_row fs w ≡ Some r → (k : ℕ) × (k < length fs) × ((get_or fs k no_form).row ≡ r) × (is_word_of (get_or fs k no_form) w ≡ true)) → (k : ℕ) × (k < length (f ∷ fs)) × ((get_or (f ∷ fs) k no_form).row ≡ r) × (is_word_of (get_or (f ∷ fs) k no_form) w ≡ true)
  go true h e later = let q : f.row ≡ r = cc in (zero, omega arith, q, h)
  go false h e later = let p = later e in (suc p.0, omega (arith, p.1), p.2, p.3)

missed-row : (fs : List Form) (w k : ℕ) (d : Form) → first_row fs w ≡ None → k < length fs → is_word_of (get_or fs k d) w ≡ false
unfolding first_row
missed-row [] w k d e lt = absurd (omega arith)
missed-row (f ∷ fs) w k d e lt = go k (is_word_of f w) refl e lt (λ j. missed-row fs w j d) where
  go : (k : ℕ) (t : Bool) → is_word_of f w ≡ t → cond t (Some f.row) (first_row fs w) ≡ None → k < length (f ∷ fs) → ((j : ℕ) → first_row fs w ≡ None → j < length fs → is_word_of (get_or fs j d) w ≡ false) → is_word_of (get_or (f ∷ fs) k d) w ≡ false
  go k true h e lt later = cc
  go zero false h e lt later = h
  go (suc k) false h e lt later = later k e (omega arith)

pub word-meets : (f : Form) (w : ℕ) → is_word_of f w ≡ true → (meets f.pieces w ≡ true) × (allowed f.rule w ≡ true)
unfolding is_word_of
word-meets f w h = and_parts (meets f.pieces w) (allowed f.rule w) h

-- two forms that a word matches are at the same place
pub meets_one : (j k w : ℕ) → j < ROWS → k < ROWS → meets (form_at j).pieces w ≡ true → meets (form_at k).pieces w ≡ true → j ≡ k
meets_one i j w p q a b =
    elim (cases_order i j) [
      | inl e ↦ e
      | inr (inl lt) ↦ absurd (one_place i j w lt q a b)
      | inr (inr lt) ↦ absurd (one_place j i w lt p b a)
    ]

-- a word belongs to the form at only one place
same_place : (i j w : ℕ) → i < ROWS → j < ROWS → is_word_of (form_at i) w ≡ true → is_word_of (form_at j) w ≡ true → i ≡ j
same_place i j w p q a b = meets_one i j w p q (word-meets (form_at i) w a).0 (word-meets (form_at j) w b).0

-- the row of a word that belongs to the form at a place
pub row_of-at : (k w : ℕ) → k < ROWS → is_word_of (form_at k) w ≡ true → row_of w ≡ Some (form_at k).row
unfolding row_of
row_of-at k w lt h = go (first_row table w) refl where
  go : (o : Option Row) → first_row table w ≡ o → o ≡ Some (form_at k).row
  go None e = let m = missed-row table w k no_form e (omega (arith, length-table)) in let u = sym h ∙ m in cc
  go (Some r) e =
      let p = found-row table w r e in
      let same = same_place p.0 k w (omega (arith, length-table, p.1)) lt p.3 h in
      ap Some (sym p.2 ∙ ap (λ j. (form_at j).row) same)

pub row_of-none : (w : ℕ) → ((k : ℕ) → k < ROWS → is_word_of (form_at k) w ≡ true → ⊥) → row_of w ≡ None
unfolding row_of
row_of-none w none = go (first_row table w) refl where
  go : (o : Option Row) → first_row table w ≡ o → o ≡ None
  go None e = refl
  go (Some r) e = let p = found-row table w r e in absurd (none p.0 (omega (arith, length-table, p.1)) p.3)

-- a word with a row belongs to the row's form
pub row_of-word : (r : Row) (w : ℕ) → row_of w ≡ Some r → is_word_of (form_at (number r)) w ≡ true
unfolding row_of
row_of-word r w e =
    let p = found-row table w r e in
    let n : number r ≡ p.0 = ap number (sym p.2) ∙ number-row p.0 (omega (arith, length-table, p.1)) in
    rw n p.3

pub row_of-insn : (i : Insn) (w : ℕ) → word_of i ≡ w → row_of w ≡ Some i.row
row_of-insn i w e =
    row_of-at (number i.row) w (number-below i.row) (insn-word i w e) ∙ ap Some (number-one (form_at (number i.row)).row i.row (number-row (number i.row) (number-below i.row)))

-- the test by masks
fits-meets : (k w : ℕ) → k < ROWS → w < 2 ^ 32 → nat_eq (bit_and w (mask (form_at k).pieces)) (held (form_at k).pieces) ≡ meets (form_at k).pieces w
fits-meets k w h lt = go (nat_eq (bit_and w (mask (form_at k).pieces)) (held (form_at k).pieces)) (meets (form_at k).pieces w) refl refl where
  go : (s t : Bool) → nat_eq (bit_and w (mask (form_at k).pieces)) (held (form_at k).pieces) ≡ s → meets (form_at k).pieces w ≡ t → s ≡ t
  go true t a b = sym (meets-at k w h lt (eqb-true _ _ a)) ∙ b
  go false true a b =
      let e = held-at k w h b in
      let m : w % 2 ^ 32 ≡ w = omega arith in
      let e' = rw m at e in
      let u = sym a ∙ eq-eqb _ _ e' in cc
  go false false a b = refl

pub fits-word : (k w : ℕ) → k < ROWS → w < 2 ^ 32 → (nat_eq (bit_and w (mask (form_at k).pieces)) (held (form_at k).pieces) && allowed (form_at k).rule w) ≡ is_word_of (form_at k) w
unfolding is_word_of
fits-word k w h lt = ap (λ t. t && allowed (form_at k).rule w) (fits-meets k w h lt)

-- the fields of a word with a row form an instruction with this word
pub row-insn : (row : Row) (w : ℕ) (fs : List ℕ) → w < 2 ^ 32 → row_of w ≡ Some row → fs ≡ fields_of row w → IsTrue (are_fields row fs) × (word_with row fs ≡ w)
row-insn row w fs lt e h =
    let m = word-meets (form_at (number row)) w (row_of-word row w e) in
    let r : IsReading (number row) w fs = (m.0, h) in
    (reading-fields (number row) w fs row (number-below row) lt refl r m.1, reading-made (number row) w fs row (number-below row) lt refl r)
