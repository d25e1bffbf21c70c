-- Instructions that are decided by the primary opcode alone.
use Rattle.std.specs.Prelude.{ℕ, Bool, true, false, ◌&&◌, nat_eq, List, [], ◌∷◌}
use Rattle.ppc_word.specs.declared.piece.Piece.{Piece}
use Rattle.ppc_word.specs.declared.piece.Piece.TheVariants.{Fixed, Field}
use Rattle.ppc_word.specs.declared.row.Row.{Row}
use Rattle.ppc_word.specs.declared.rule.Rule.{Rule}
use Rattle.ppc_word.specs.declared.rule.Rule.TheVariants.{Any}
use Rattle.ppc_word.specs.Words.{bits}
use Rattle.ppc_word.specs.Table.{form_of}

-- none of the bits of these pieces is fixed
abbrev pub only_fields : List Piece → Bool
only_fields [] = true
only_fields (Field w ∷ ps) = only_fields ps
only_fields ps = false

-- the rule allows every word
abbrev pub allows_all : Rule → Bool
allows_all Any = true
allows_all rule = false

-- the pieces are this primary opcode, then only fields
abbrev pub opcode_then_fields : List Piece → ℕ → Bool
opcode_then_fields (Fixed w v ∷ ps) n = nat_eq w 6 && (nat_eq v n && (nat_eq (bits ps) 26 && only_fields ps))
opcode_then_fields ps n = false

-- every word with this primary opcode is a word of the instruction
unfoldable pub is_decided_by : Row → ℕ → Bool
is_decided_by row n = opcode_then_fields (form_of row).pieces n && allows_all (form_of row).rule
