-- The types of relocation (System V ABI, PowerPC Processor Supplement, "Relocation Types") and the forms of their fields.
use Rattle.std.specs.Prelude.{◌≡◌, ◌⊎◌, ℕ, Bool, ◌==◌, List, [], ◌∷◌, Option, None, Some}
use Rattle.std.specs.List.{find, list_any}
use Rattle.reloc_link.specs.declared.kind.RelocType.{RelocType}
use Rattle.reloc_link.specs.declared.kind.RelocType.TheVariants.{Nothing, Addr32, Addr24, Addr16, Addr16Lo, Addr16Hi, Addr16Ha, Addr14, Addr14BrTaken, Addr14BrNTaken, Rel24, Rel14, Rel14BrTaken, Rel14BrNTaken, Uaddr32, Uaddr16, Rel32}
use Rattle.reloc_link.specs.declared.kind.Hint.TheVariants.{Kept, Taken, NotTaken}
use Rattle.reloc_link.specs.declared.kind.Form.{Form}
use Rattle.reloc_link.specs.declared.kind.Form.TheVariants.{Empty, Word, Branch24, Branch14, Half, Low, High, HighAdjusted}

-- the number of a type
abbrev pub type_number : RelocType → ℕ
type_number Nothing = 0
type_number Addr32 = 1
type_number Addr24 = 2
type_number Addr16 = 3
type_number Addr16Lo = 4
type_number Addr16Hi = 5
type_number Addr16Ha = 6
type_number Addr14 = 7
type_number Addr14BrTaken = 8
type_number Addr14BrNTaken = 9
type_number Rel24 = 10
type_number Rel14 = 11
type_number Rel14BrTaken = 12
type_number Rel14BrNTaken = 13
type_number Uaddr32 = 24
type_number Uaddr16 = 25
type_number Rel32 = 26

-- the supported types
abbrev pub types : List RelocType
types = Nothing ∷ Addr32 ∷ Addr24 ∷ Addr16 ∷ Addr16Lo ∷ Addr16Hi ∷ Addr16Ha ∷ Addr14 ∷ Addr14BrTaken ∷ Addr14BrNTaken
    ∷ Rel24 ∷ Rel14 ∷ Rel14BrTaken ∷ Rel14BrNTaken ∷ Uaddr32 ∷ Uaddr16 ∷ Rel32 ∷ []

-- the type that has this number
abbrev pub type_of : ℕ → Option RelocType
type_of n = find (λ t. n == type_number t) types

-- the form of the field that a type writes
abbrev pub form_of : RelocType → Form
form_of Nothing = Empty
form_of Addr32 = Word
form_of Addr24 = Branch24
form_of Addr16 = Half
form_of Addr16Lo = Low
form_of Addr16Hi = High
form_of Addr16Ha = HighAdjusted
form_of Addr14 = Branch14 Kept
form_of Addr14BrTaken = Branch14 Taken
form_of Addr14BrNTaken = Branch14 NotTaken
form_of Rel24 = Branch24
form_of Rel14 = Branch14 Kept
form_of Rel14BrTaken = Branch14 Taken
form_of Rel14BrNTaken = Branch14 NotTaken
form_of Uaddr32 = Word
form_of Uaddr16 = Half
form_of Rel32 = Word

-- the types that write the distance from the field instead of an address
abbrev pub relative_types : List RelocType
relative_types = Rel24 ∷ Rel14 ∷ Rel14BrTaken ∷ Rel14BrNTaken ∷ Rel32 ∷ []

abbrev pub is_relative : RelocType → Bool
is_relative t = list_any (λ r. type_number r == type_number t) relative_types

-- how many bytes a form has
abbrev pub width_by : Form → ℕ
width_by Empty = 0
width_by Word = 4
width_by Branch24 = 4
width_by (Branch14 hint) = 4
width_by Half = 2
width_by Low = 2
width_by High = 2
width_by HighAdjusted = 2

-- how many bytes a type writes; no type writes none
abbrev pub width_or : Option RelocType → ℕ
width_or None = 0
width_or (Some t) = width_by (form_of t)

-- how many bytes the type with this number writes
unfoldable pub width_of : ℕ → ℕ
width_of kind = width_or (type_of kind)

-- a width of a field
abbrev pub IsWidth : ℕ → Type 0
IsWidth n = (n ≡ 0) ⊎ ((n ≡ 2) ⊎ (n ≡ 4))
