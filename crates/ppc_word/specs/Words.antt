-- Words and their pieces: a form is a list of pieces from the most significant bit on; each piece is fixed or a field.
use Rattle.std.specs.Prelude.{ℕ, ◌+◌, ◌-◌, ◌*◌, ◌/◌, ◌%◌, ◌^◌, Bool, true, false, ◌&&◌, nat_eq, nat_lt, nat_le, List, [], ◌∷◌}
use Rattle.ppc_word.specs.declared.piece.Piece.{Piece}
use Rattle.ppc_word.specs.declared.piece.Piece.TheVariants.{Fixed, Field}

-- the number of bits of the pieces
abbrev pub bits : List Piece → ℕ
bits [] = 0
bits (Fixed w n ∷ ps) = w + bits ps
bits (Field w ∷ ps) = w + bits ps

-- the word with these fields, in order
abbrev pub joined : List Piece → List ℕ → ℕ
joined [] fs = 0
joined (Fixed w n ∷ ps) fs = n * 2 ^ bits ps + joined ps fs
joined (Field w ∷ ps) [] = joined ps []
joined (Field w ∷ ps) (f ∷ fs) = f * 2 ^ bits ps + joined ps fs

-- every number is 0
abbrev pub all_zero : List ℕ → Bool
all_zero [] = true
all_zero (f ∷ fs) = nat_eq f 0 && all_zero fs

-- each field fits its width, and the unused places are 0
abbrev pub fit : List Piece → List ℕ → Bool
fit [] fs = all_zero fs
fit (Fixed w n ∷ ps) fs = fit ps fs
fit (Field w ∷ ps) [] = false
fit (Field w ∷ ps) (f ∷ fs) = nat_lt f (2 ^ w) && fit ps fs

-- the fields of a word, in order
abbrev pub parts : List Piece → ℕ → List ℕ
parts [] n = []
parts (Fixed w v ∷ ps) n = parts ps n
parts (Field w ∷ ps) n = n / 2 ^ bits ps % 2 ^ w ∷ parts ps n

-- a word matches a form: the fixed bits have their values
abbrev pub meets : List Piece → ℕ → Bool
meets [] n = true
meets (Fixed w v ∷ ps) n = nat_eq (n / 2 ^ bits ps % 2 ^ w) v && meets ps n
meets (Field w ∷ ps) n = meets ps n

-- the number of fields
abbrev pub fields : List Piece → ℕ
fields [] = 0
fields (Fixed w v ∷ ps) = fields ps
fields (Field w ∷ ps) = 1 + fields ps

-- the places of the fields in a word, in order: the first bit, counted from the most significant, and the width
abbrev pub field_places : List Piece → List (ℕ × ℕ)
field_places [] = []
field_places (Fixed w v ∷ ps) = field_places ps
field_places (Field w ∷ ps) = (32 - (w + bits ps), w) ∷ field_places ps

-- the fixed values fit their bits
abbrev pub sound : List Piece → Bool
sound [] = true
sound (Fixed w v ∷ ps) = nat_lt v (2 ^ w) && sound ps
sound (Field w ∷ ps) = sound ps

-- the pieces have 32 bits and at most six fields
abbrev pub whole : List Piece → Bool
whole ps = nat_eq (bits ps) 32 && nat_le (fields ps) 6 && sound ps
