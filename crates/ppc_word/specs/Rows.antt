-- Which instruction a word is, and which fields an instruction can have.
use Rattle.std.specs.Prelude.{ℕ, ◌-◌, Bool, cond, ◌&&◌, nat_eq, List, [], ◌∷◌, ◌++◌, length, replicate, Option, Some, None}
use Rattle.ppc_word.specs.declared.row.Row.{Row}
use Rattle.ppc_word.specs.Words.{meets, parts, fields, fit, joined}
use Rattle.ppc_word.specs.Rules.{allowed}
use Rattle.ppc_word.specs.Table.{Form, table, form_of}

-- a word belongs to the form: it matches the pieces and meets the rule
unfoldable pub is_word_of : Form → ℕ → Bool
is_word_of f w = meets f.pieces w && allowed f.rule w

-- the first instruction of a list of forms to which a word belongs
unfoldable pub first_row : List Form → ℕ → Option Row
first_row [] w = None
first_row (f ∷ fs) w = cond (is_word_of f w) (Some f.row) (first_row fs w)

-- the instruction of a word, or none if the word isn't in the table
unfoldable pub row_of : ℕ → Option Row
row_of w = first_row table w

-- the fields of a word, read as a word of this instruction, in six places; the unused places are 0
abbrev pub fields_of : Row → ℕ → List ℕ
fields_of row w = parts (form_of row).pieces w ++ replicate (6 - fields (form_of row).pieces) 0

-- the word of an instruction with these fields
unfoldable pub word_with : Row → List ℕ → ℕ
word_with row fs = joined (form_of row).pieces fs

-- six numbers are fields of an instruction: each fits its width, the unused ones are 0, and their word meets the rule
unfoldable pub are_fields : Row → List ℕ → Bool
are_fields row fs = nat_eq (length fs) 6 && fit (form_of row).pieces fs && allowed (form_of row).rule (word_with row fs)
