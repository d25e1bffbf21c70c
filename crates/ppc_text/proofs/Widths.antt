-- How many bytes an instruction takes as text.
use Rattle.std.proofs.Common.{◌≡◌, ℕ, zero, suc, ◌<◌, ◌≤◌, ◌^◌, Bool, true, false, ◌&&◌, List, [], ◌∷◌, length, get_or, refl, sym, ◌∙◌, arith, eqb-true}
use Rattle.std.specs.Prelude.{nat_le, nat_lt, nat_eq, if◌then◌else◌}
use Rattle.std.specs.List.{list_all}
use Rattle.std.proofs.lemmas.List.Elements.{All-nil, All-cons}
use Rattle.std.proofs.lemmas.Bool.{and_parts, leb-true, ltb-true}
use Rattle.ppc_word.specs.declared.row.Row.{Row}
use Rattle.ppc_word.specs.declared.insn.Insn.{Insn}
use Rattle.ppc_word.specs.Table.{number, form_of}
use Rattle.ppc_word.specs.Words.{fit}
use Rattle.ppc_word.specs.Rules.{allowed}
use Rattle.ppc_word.specs.Rows.{are_fields, word_with}
use Rattle.ppc_word.proofs.Whole.{number-below}
use Rattle.ppc_text.specs.declared.part.Shape.{Shape}
use Rattle.ppc_text.specs.declared.part.Shape.TheVariants.{Immediate, Shifted, LogicalImmediate, CompareImmediate, CompareUnsigned, Compare, TrapImmediate, Trap, Memory, Three, Two, LogicalThree, LogicalTwo, Shift, Rotate, RotateBy, Branch, BranchConditional, BranchRegister, Bits, Fields, Field, One, Mask, FromSpecial, ToSpecial, Nothing, LoadImmediate, LoadShifted, Move, Always, FromLink, ToLink}
use Rattle.ppc_text.specs.Mnemonics.{Named, instructions, no_name, named_as, flagged}
use Rattle.ppc_text.specs.Limits.{lies_below, are_within, limit_of, limits_of}
use Rattle.ppc_text.specs.Operands.{with_value}
use Rattle.ppc_text.specs.Shapes.{parts_of}
use Rattle.ppc_text.proofs.Spellings.{length-instructions}
use Rattle.ppc_text.proofs.Fields.{fit-within}
use Rattle.ppc_text.specs.Shown.{AreShort, widths}

pub narrow : (s : Shape) → widths (parts_of s) ≤ 53
narrow Immediate = omega arith
narrow Shifted = omega arith
narrow LogicalImmediate = omega arith
narrow CompareImmediate = omega arith
narrow CompareUnsigned = omega arith
narrow Compare = omega arith
narrow TrapImmediate = omega arith
narrow Trap = omega arith
narrow Memory = omega arith
narrow Three = omega arith
narrow Two = omega arith
narrow LogicalThree = omega arith
narrow LogicalTwo = omega arith
narrow Shift = omega arith
narrow Rotate = omega arith
narrow RotateBy = omega arith
narrow Branch = omega arith
narrow BranchConditional = omega arith
narrow BranchRegister = omega arith
narrow Bits = omega arith
narrow Fields = omega arith
narrow Field = omega arith
narrow One = omega arith
narrow Mask = omega arith
narrow FromSpecial = omega arith
narrow ToSpecial = omega arith
narrow Nothing = omega arith
narrow LoadImmediate = omega arith
narrow LoadShifted = omega arith
narrow Move = omega arith
narrow Always = omega arith
narrow FromLink = omega arith
narrow ToLink = omega arith

-- ---- fields
pub fields_are : (row : Row) (fs : List ℕ) → are_fields row fs ≡ true → (length fs ≡ 6) × (fit (form_of row).pieces fs ≡ true)
unfolding are_fields
fields_are row fs h =
    let a = and_parts (nat_eq (length fs) 6 && fit (form_of row).pieces fs) (allowed (form_of row).rule (word_with row fs)) h in
    let b = and_parts (nat_eq (length fs) 6) (fit (form_of row).pieces fs) a.0 in
    (eqb-true _ _ b.0, b.1)

pub fields_within : (row : Row) (fs : List ℕ) → are_fields row fs ≡ true → are_within (limits_of (named_as row)) fs ≡ true
fields_within row fs h = let f = fields_are row fs h in sym (fit-within row fs f.0) ∙ f.1

low_limits : list_all (λ (m : Named). list_all (λ l. nat_le l 0x1000000) (limits_of m)) instructions ≡ true
unfolding instructions limits_of limit_of flagged with_value
low_limits = refl

list_all-at : {X : Type 0} (p : X → Bool) (xs : List X) (i : ℕ) (d : X) → list_all p xs ≡ true → i < length xs → p (get_or xs i d) ≡ true
list_all-at p [] i d h lt = absurd (omega arith)
list_all-at p (x ∷ xs) zero d h lt = (and_parts (p x) (list_all p xs) h).0
list_all-at p (x ∷ xs) (suc i) d h lt = list_all-at p xs i d (and_parts (p x) (list_all p xs) h).1 (omega arith)

pub at_row : (p : Named → Bool) → list_all p instructions ≡ true → (row : Row) → p (named_as row) ≡ true
unfolding named_as
at_row p h row = list_all-at p instructions (number row) no_name h (omega (arith, number-below row, length-instructions))

below_short : (l f : ℕ) → nat_le l 0x1000000 ≡ true → lies_below l f ≡ true → f < 2 ^ 24
below_short l f h e = go (nat_eq l 0) e where
  go : (b : Bool) → (if b then nat_eq f 0 else nat_lt f l) ≡ true → f < 2 ^ 24
  go true k = let z = eqb-true f 0 k in omega arith
  go false k = let z = ltb-true f l k in let w = leb-true l 0x1000000 h in omega arith

within_short : (ls fs : List ℕ) → list_all (λ l. nat_le l 0x1000000) ls ≡ true → are_within ls fs ≡ true → AreShort fs
within_short [] [] h e = All-nil (λ x. x < 2 ^ 24)
within_short [] (f ∷ fs) h e = cc
within_short (l ∷ ls) [] h e = cc
within_short (l ∷ ls) (f ∷ fs) h e =
    let a = and_parts (nat_le l 0x1000000) (list_all (λ l. nat_le l 0x1000000) ls) h in
    let b = and_parts (lies_below l f) (are_within ls fs) e in
    All-cons (λ x. x < 2 ^ 24) f fs (below_short l f a.0 b.0) (within_short ls fs a.1 b.1)

pub short_fields : (i : Insn) → AreShort i.fields
short_fields i = within_short (limits_of (named_as i.row)) i.fields (at_row (λ (m : Named). list_all (λ l. nat_le l 0x1000000) (limits_of m)) low_limits i.row) (fields_within i.row i.fields i.in_table)
