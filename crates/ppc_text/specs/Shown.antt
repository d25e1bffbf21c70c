-- Instructions as source text: the mnemonic with its ending, a blank, and the operands in decimal.
use Rattle.std.specs.Prelude.{ℕ, ◌+◌, ◌-◌, ◌*◌, ◌<◌, ◌^◌, ◌==◌, nat_lt, if◌then◌else◌, List, [], ◌∷◌, ◌++◌, slice_index_or, codes}
use Rattle.std.specs.List.{All, flat_map}
use Rattle.std.specs.Fmt.{decimal}
use Rattle.ppc_word.specs.declared.insn.Insn.{Insn}
use Rattle.ppc_text.specs.declared.part.Part.{Part}
use Rattle.ppc_text.specs.declared.part.Part.TheVariants as parts
use Rattle.ppc_text.specs.declared.mnemonic.Endings.{Endings}
use Rattle.ppc_text.specs.declared.mnemonic.Endings.TheVariants.{Bare, Record, Overflow, Link, LinkAbsolute}
use Rattle.ppc_text.specs.Mnemonics.{Named, named_as}
use Rattle.ppc_text.specs.Limits.{special_of}
use Rattle.ppc_text.specs.Shapes.{parts_of}
use Rattle.ppc_text.specs.Operands.{reach_of}

-- the field at a place; 0 if the place is out of range
abbrev pub field_at : List ℕ → ℕ → ℕ
field_at fields place = slice_index_or fields place 0

-- a two's complement number in decimal: below `least` it is itself, else it is less by twice `least`
unfoldable pub signed_text : ℕ → ℕ → List ℕ
signed_text least n = if nat_lt n least then decimal n else codes "-" ++ decimal (2 * least - n)

-- the text of a part of the operands; a branch's displacement is four times its field
unfoldable pub part_text : List ℕ → Part → List ℕ
part_text fields parts.Comma = codes ", "
part_text fields parts.Open = codes "("
part_text fields parts.Close = codes ")"
part_text fields (parts.Register place) = codes "r" ++ decimal (field_at fields place)
part_text fields (parts.Twice place other) = codes "r" ++ decimal (field_at fields place)
part_text fields (parts.Number place greatest) = decimal (field_at fields place)
part_text fields (parts.Special place) = decimal (special_of (field_at fields place))
part_text fields (parts.Signed place greatest) = signed_text 0x8000 (field_at fields place)
part_text fields (parts.Unsigned place) = decimal (field_at fields place)
part_text fields (parts.Target place reach) = signed_text (reach_of reach) (field_at fields place * 4)
part_text fields (parts.Fixed place value) = []

-- a blank and all operands; nothing if there are no operands
unfoldable pub operands_text : List ℕ → List Part → List ℕ
operands_text fields [] = []
operands_text fields (p ∷ ps) = codes " " ++ flat_map (part_text fields) (p ∷ ps)

-- a letter of an ending if its field is 1, else nothing
abbrev pub if_set : List ℕ → ℕ → List ℕ → List ℕ
if_set fields place letter = if field_at fields place == 1 then letter else []

-- the text of the ending: `.` for Rc, `o` for OE, `l` for LK and `a` for AA
unfoldable pub ending_text : List ℕ → Endings → List ℕ
ending_text fields Bare = []
ending_text fields (Record place) = if_set fields place (codes ".")
ending_text fields (Overflow place) = if_set fields place (codes "o") ++ if_set fields (place + 1) (codes ".")
ending_text fields (Link place) = if_set fields place (codes "l")
ending_text fields (LinkAbsolute place) = if_set fields (place + 1) (codes "l") ++ if_set fields place (codes "a")

-- the text of an instruction with these fields, by its mnemonic
abbrev pub text_with : Named → List ℕ → List ℕ
text_with m fields = (m.name ++ ending_text fields m.endings) ++ operands_text fields (parts_of m.shape)

-- the text of an instruction
unfoldable pub text_of : Insn → List ℕ
text_of i = text_with (named_as i.row) i.fields

-- ---- room
-- each field has at most 24 bits
abbrev pub AreShort : List ℕ → Type 0
AreShort fields = All (λ f. f < 2 ^ 24) fields

-- the most bytes of a part's text
abbrev pub width_of : Part → ℕ
width_of parts.Comma = 2
width_of parts.Open = 1
width_of parts.Close = 1
width_of (parts.Fixed place value) = 0
width_of part = 9

-- the most bytes of these parts' text
abbrev pub widths : List Part → ℕ
widths [] = 0
widths (p ∷ ps) = width_of p + widths ps
