-- The new content of a field: S is the address of the symbol, A the addend and P the address of the field. All are
-- modulo 2^32; numbers from 2^31 on are read as negative.
use Rattle.std.specs.Prelude.{ℕ, ◌+◌, ◌-◌, ◌%◌, ◌/◌, ◌^◌, Bool, ◌||◌, nat_lt, nat_le, ◌==◌, if◌then◌else◌, Option, None, Some, Result, Ok, Err, bit_and, bit_or}
use Rattle.reloc_link.specs.declared.kind.RelocType.{RelocType}
use Rattle.reloc_link.specs.declared.kind.Hint.{Hint}
use Rattle.reloc_link.specs.declared.kind.Hint.TheVariants.{Kept, Taken, NotTaken}
use Rattle.reloc_link.specs.declared.kind.Form.{Form}
use Rattle.reloc_link.specs.declared.kind.Form.TheVariants.{Empty, Word, Branch24, Branch14, Half, Low, High, HighAdjusted}
use Rattle.reloc_link.specs.declared.fields.FieldFault.{FieldFault}
use Rattle.reloc_link.specs.declared.fields.FieldFault.TheVariants.{Range, Unaligned, Unsupported}
use Rattle.reloc_link.specs.Types.{type_of, form_of, is_relative}

-- S + A
abbrev pub sum_of : ℕ → ℕ → ℕ
sum_of s a = (s + a) % 2 ^ 32

-- S + A - P
abbrev pub distance_of : ℕ → ℕ → ℕ → ℕ
distance_of s a p = (s + a + 2 ^ 32 - p) % 2 ^ 32

-- the value that a type writes
abbrev pub value_of : RelocType → ℕ → ℕ → ℕ → ℕ
value_of kind s a p = if is_relative kind then distance_of s a p else sum_of s a

-- read as signed, the number is at least -low and below high
abbrev pub lies_within : ℕ → ℕ → ℕ → Bool
lies_within low high v = nat_lt v high || nat_le (2 ^ 32 - low) v

-- the target of a branch that reaches this far in both directions; the range is checked first
abbrev pub target : ℕ → ℕ → Result ℕ FieldFault
target reach v = if lies_within reach reach v then (if v % 4 == 0 then Ok v else Err Unaligned) else Err Range

-- the word with the bits of the mask taken from v
abbrev pub with_bits : ℕ → ℕ → ℕ → ℕ
with_bits mask old v = bit_or (bit_and old (0xffffffff - mask)) (bit_and v mask)

-- the bits of the targets of branches, and the bit that predicts a conditional one
abbrev pub branch_24 : ℕ
branch_24 = 0x03fffffc

abbrev pub branch_14 : ℕ
branch_14 = 0x0000fffc

abbrev pub hint_bit : ℕ
hint_bit = 0x00200000

-- a processor predicts a conditional branch as taken if its distance is negative; the bit reverses that
abbrev pub hinted : Hint → ℕ → ℕ → ℕ
hinted Kept distance word = word
hinted Taken distance word = with_bits hint_bit word (if nat_lt distance (2 ^ 31) then hint_bit else 0)
hinted NotTaken distance word = with_bits hint_bit word (if nat_lt distance (2 ^ 31) then 0 else hint_bit)

-- the word with the target in its bits, if the target is valid
abbrev pub branch_to : (ℕ → ℕ) → Result ℕ FieldFault → Result ℕ FieldFault
branch_to word (Ok v) = Ok (word v)
branch_to word (Err e) = Err e

-- v written into a field of this form, which held old
abbrev pub put_by : Form → ℕ → ℕ → ℕ → Result ℕ FieldFault
put_by Empty v distance old = Ok old
put_by Word v distance old = Ok v
put_by Branch24 v distance old = branch_to (λ t. with_bits branch_24 old t) (target (2 ^ 25) v)
put_by (Branch14 hint) v distance old =
    branch_to (λ t. hinted hint distance (with_bits branch_14 old t)) (target (2 ^ 15) v)
put_by Half v distance old = if lies_within (2 ^ 15) (2 ^ 16) v then Ok (v % 2 ^ 16) else Err Range
put_by Low v distance old = Ok (v % 2 ^ 16)
put_by High v distance old = Ok (v / 2 ^ 16)
put_by HighAdjusted v distance old = Ok ((v / 2 ^ 16 + v / 2 ^ 15 % 2) % 2 ^ 16)

-- the new content by the type, if it is supported
abbrev pub field_by : Option RelocType → ℕ → ℕ → ℕ → ℕ → Result ℕ FieldFault
field_by None s a p old = Err Unsupported
field_by (Some kind) s a p old = put_by (form_of kind) (value_of kind s a p) (distance_of s a p) old

-- the new content of a field that held old, or why there is none
unfoldable pub field : ℕ → ℕ → ℕ → ℕ → ℕ → Result ℕ FieldFault
field kind s a p old = field_by (type_of kind) s a p old
