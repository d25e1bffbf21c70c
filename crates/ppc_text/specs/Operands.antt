-- Operands as they are written: registers, numbers, addresses and halves of addresses.
use Rattle.std.specs.Prelude.{ℕ, ◌+◌, ◌-◌, ◌*◌, ◌/◌, ◌%◌, ◌^◌, Bool, true, false, ◌==◌, ◌&&◌, nat_le, if◌then◌else◌, List, [], ◌∷◌, drop, slice_set, Option, Some, None}
use Prim.Native.Char.{code}
use Rattle.ppc_text.specs.declared.token.Half.{Half}
use Rattle.ppc_text.specs.declared.token.Half.TheVariants.{Low, High, HighAdjusted}
use Rattle.ppc_text.specs.declared.token.Reference.{Reference}
use Rattle.ppc_text.specs.declared.token.Token.{Token}
use Rattle.ppc_text.specs.declared.token.Token.TheVariants as tokens
use Rattle.ppc_text.specs.declared.part.Reach.{Reach}
use Rattle.ppc_text.specs.declared.part.Reach.TheVariants.{Long, Short}
use Rattle.ppc_text.specs.declared.part.Part.{Part}
use Rattle.ppc_text.specs.declared.part.Part.TheVariants as parts
use Rattle.ppc_text.specs.declared.operand.Signed.{Signed}
use Rattle.ppc_text.specs.declared.operand.Address.{Address}
use Rattle.ppc_text.specs.declared.operand.Operand.{Operand}
use Rattle.ppc_text.specs.declared.operand.Operands.{Operands}

-- ---- numbers
-- the first token, if it is a number
abbrev pub first_number : List Token → Option ℕ
first_number (tokens.Number n ∷ ts) = Some n
first_number _ = None

-- the number after a `-`
abbrev pub after_minus : Option ℕ → Option Signed
after_minus (Some n) = Some (record { negative = true; size = n; count = 2 })
after_minus None = None

-- the number that the tokens begin with: an optional `-`, then a number
abbrev pub number_at : List Token → Option Signed
number_at (tokens.Minus ∷ ts) = after_minus (first_number ts)
number_at (tokens.Number n ∷ ts) = Some (record { negative = false; size = n; count = 1 })
number_at _ = None

-- a number from -least to greatest; a negative one is taken modulo twice least
abbrev pub residue : ℕ → ℕ → Signed → Option ℕ
residue least greatest n =
    if n.size == 0 then Some 0
    else (if n.negative then (if nat_le n.size least then Some (2 * least - n.size) else None)
    else (if nat_le n.size greatest then Some n.size else None))

-- ---- addresses
-- the addend that subtracts a number from an address: its negative, modulo 2^32
abbrev pub taken_away : Option ℕ → Option ℕ
taken_away (Some n) = Some ((2 ^ 32 - n) % 2 ^ 32)
taken_away None = None

-- the addend that the tokens begin with: a sign, then a number
abbrev pub addend_at : List Token → Option ℕ
addend_at (tokens.Plus ∷ ts) = first_number ts
addend_at (tokens.Minus ∷ ts) = taken_away (first_number ts)
addend_at _ = None

-- the address of a name with an optional addend
abbrev pub address_with : List ℕ → Option ℕ → Address
address_with s (Some n) = record { symbol = s; addend = n; count = 3 }
address_with s None = record { symbol = s; addend = 0; count = 1 }

-- an address: a name, or a name with an addend
abbrev pub address_at : List Token → Option Address
address_at (tokens.Name s ∷ ts) = Some (address_with s (addend_at ts))
address_at _ = None

-- R_PPC_ADDR16_LO, _HI and _HA of the PowerPC ABI supplement
abbrev pub half_kind : Half → ℕ
half_kind Low = 4
half_kind High = 5
half_kind HighAdjusted = 6

-- the half of an address that the first token names
abbrev pub first_half : List Token → Option Half
first_half (tokens.Part h ∷ ts) = Some h
first_half _ = None

-- half an address as an operand
abbrev pub with_half : Address → Option Half → Option Operand
with_half a (Some h) = Some (record { value = 0; count = a.count + 1; reference = Some (record { symbol = a.symbol; addend = a.addend; kind = half_kind h }) })
with_half a None = None

-- what follows an address, if there is one
abbrev pub with_address : Option Address → (Address → Option Operand) → Option Operand
with_address (Some a) go = go a
with_address None go = None

-- an address, then the half that is meant
abbrev pub half_operand : List Token → Option Operand
half_operand ts = with_address (address_at ts) (λ a. with_half a (first_half (drop a.count ts)))

-- ---- the kinds of operands
-- an operand without a relocation
abbrev pub plain : Option ℕ → ℕ → Option Operand
plain (Some v) n = Some (record { value = v; count = n; reference = None })
plain None n = None

-- the operand of a number, if the tokens begin with one, or else the other
abbrev pub by_number : Option Signed → (Signed → Option Operand) → Option Operand → Option Operand
by_number (Some n) go other = go n
by_number None go other = other

-- an immediate operand from -least to greatest, or half an address
abbrev pub immediate_at : ℕ → ℕ → List Token → Option Operand
immediate_at least greatest ts = by_number (number_at ts) (λ n. plain (residue least greatest n) n.count) (half_operand ts)

-- a number up to a greatest one
abbrev pub number_operand : ℕ → List Token → Option Operand
number_operand greatest ts = by_number (number_at ts) (λ n. plain (residue 0 greatest n) n.count) None

-- how far a branch reaches backward, in bytes
abbrev pub reach_of : Reach → ℕ
reach_of Long = 0x2000000
reach_of Short = 0x8000

-- R_PPC_REL24, R_PPC_ADDR24, R_PPC_REL14 and R_PPC_ADDR14 of the PowerPC ABI supplement
abbrev pub target_kind : Reach → Bool → ℕ
target_kind Long false = 10
target_kind Long true = 2
target_kind Short false = 11
target_kind Short true = 7

-- a displacement of bytes, in words, if it is a multiple of 4
abbrev pub words_of : Option ℕ → Option ℕ
words_of (Some v) = if v % 4 == 0 then Some (v / 4) else None
words_of None = None

-- an address as a target
abbrev pub target_address : ℕ → Option Address → Option Operand
target_address kind (Some a) = Some (record { value = 0; count = a.count; reference = Some (record { symbol = a.symbol; addend = a.addend; kind = kind }) })
target_address kind None = None

-- the target of a branch: a displacement or an absolute address in range, or the address of a relocation
abbrev pub target_at : Reach → Bool → List Token → Option Operand
target_at reach absolute ts =
    by_number (number_at ts) (λ n. plain (words_of (residue (reach_of reach) (reach_of reach - 1) n)) n.count)
    (target_address (target_kind reach absolute) (address_at ts))

-- the number of a register, `r0` to `r31`, without leading zeros
abbrev pub register_of : List ℕ → Option ℕ
register_of (r ∷ d ∷ []) = if r == code "r" && (nat_le (code "0") d && nat_le d (code "9")) then Some (d - code "0") else None
register_of (r ∷ t ∷ d ∷ []) =
    if r == code "r" && ((nat_le (code "1") t && nat_le t (code "2")) && (nat_le (code "0") d && nat_le d (code "9"))) then Some ((t - code "0") * 10 + (d - code "0"))
    else (if r == code "r" && (t == code "3" && (nat_le (code "0") d && nat_le d (code "1"))) then Some (30 + (d - code "0")) else None)
register_of _ = None

-- a register
abbrev pub register_at : List Token → Option Operand
register_at (tokens.Name w ∷ ts) = plain (register_of w) 1
register_at _ = None

-- the field of a special register: the two halves of 5 bits of its number are exchanged
abbrev pub swapped : Option ℕ → Option ℕ
swapped (Some v) = Some (v % 32 * 32 + v / 32)
swapped None = None

-- the number of a special register, at most 1023
abbrev pub special_at : List Token → Option Operand
special_at ts = by_number (number_at ts) (λ n. plain (swapped (residue 0 1023 n)) n.count) None

-- ---- marks
-- the first token is a comma
abbrev pub is_comma : List Token → Bool
is_comma (tokens.Comma ∷ ts) = true
is_comma _ = false

-- the first token is an opening parenthesis
abbrev pub is_open : List Token → Bool
is_open (tokens.Open ∷ ts) = true
is_open _ = false

-- the first token is a closing parenthesis
abbrev pub is_close : List Token → Bool
is_close (tokens.Close ∷ ts) = true
is_close _ = false

-- a mark that has to stand here
abbrev pub mark_operand : Bool → Option Operand
mark_operand true = plain (Some 0) 1
mark_operand false = None

-- ---- all operands of an instruction
-- a part of the operands that these tokens begin with; `absolute` says that a branch's target is an absolute address
unfoldable pub part_at : Part → Bool → List Token → Option Operand
part_at parts.Comma absolute ts = mark_operand (is_comma ts)
part_at parts.Open absolute ts = mark_operand (is_open ts)
part_at parts.Close absolute ts = mark_operand (is_close ts)
part_at (parts.Register place) absolute ts = register_at ts
part_at (parts.Twice place other) absolute ts = register_at ts
part_at (parts.Number place greatest) absolute ts = number_operand greatest ts
part_at (parts.Special place) absolute ts = special_at ts
part_at (parts.Signed place greatest) absolute ts = immediate_at 0x8000 greatest ts
part_at (parts.Unsigned place) absolute ts = immediate_at 0 0xffff ts
part_at (parts.Target place reach) absolute ts = target_at reach absolute ts
part_at (parts.Fixed place value) absolute ts = plain (Some value) 0

-- the fields with this value at a place
abbrev pub with_field : List ℕ → ℕ → ℕ → List ℕ
with_field fields place value = slice_set fields place value

-- the fields with this value at the places of a part
unfoldable pub with_value : List ℕ → Part → ℕ → List ℕ
with_value fields parts.Comma value = fields
with_value fields parts.Open value = fields
with_value fields parts.Close value = fields
with_value fields (parts.Register place) value = with_field fields place value
with_value fields (parts.Twice place other) value = with_field (with_field fields place value) other value
with_value fields (parts.Number place greatest) value = with_field fields place value
with_value fields (parts.Special place) value = with_field fields place value
with_value fields (parts.Signed place greatest) value = with_field fields place value
with_value fields (parts.Unsigned place) value = with_field fields place value
with_value fields (parts.Target place reach) value = with_field fields place value
with_value fields (parts.Fixed place number) value = with_field fields place value

-- the later of two references; an instruction has at most one
abbrev pub later : Option Reference → Option Reference → Option Reference
later before (Some r) = Some r
later before None = before

-- the operands, if no token is left after the last one
abbrev pub finished : List ℕ → Option Reference → List Token → Option Operands
finished fields reference [] = Some (record { fields = fields; reference = reference })
finished fields reference (t ∷ ts) = None

-- what follows an operand, if there is one
abbrev pub with_operand : Option Operand → (Operand → Option Operands) → Option Operands
with_operand (Some x) go = go x
with_operand None go = None

-- the operands from these parts on; the parts before them gave these fields and this reference
abbrev pub operands_from : List Part → Bool → List ℕ → Option Reference → List Token → Option Operands
operands_from [] absolute fields reference ts = finished fields reference ts
operands_from (p ∷ ps) absolute fields reference ts =
    with_operand (part_at p absolute ts)
    (λ x. operands_from ps absolute (with_value fields p x.value) (later reference x.reference) (drop x.count ts))

-- all tokens as the operands that these parts describe
unfoldable pub operands_at : List Part → Bool → List ℕ → List Token → Option Operands
operands_at ps absolute fields ts = operands_from ps absolute fields None ts
