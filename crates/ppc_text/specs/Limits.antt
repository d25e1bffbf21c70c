-- Which fields an instruction may have: the limit of each, and its form's rule.
use Rattle.std.specs.Prelude.{ℕ, ◌+◌, ◌*◌, ◌/◌, ◌%◌, Bool, true, false, not, ◌&&◌, ◌||◌, nat_eq, nat_lt, min, if◌then◌else◌, List, [], ◌∷◌, slice_index}
use Rattle.wind_base.specs.Limits.{greatest_word}
use Rattle.ppc_text.specs.declared.part.Reach.TheVariants.{Long, Short}
use Rattle.ppc_text.specs.declared.part.Part.{Part}
use Rattle.ppc_text.specs.declared.part.Part.TheVariants as parts
use Rattle.ppc_word.specs.declared.rule.Rule.{Rule}
use Rattle.ppc_word.specs.declared.rule.Rule.TheVariants.{Any, LoadUpdate, StoreUpdate, LoadMultiple, SpecialRegister, NoCount}
use Rattle.ppc_text.specs.Mnemonics.{Named, flagged}
use Rattle.ppc_text.specs.Operands.{with_value}
use Rattle.ppc_text.specs.Shapes.{parts_of}

-- the number that the field of an operand lies below
unfoldable pub limit_of : Part → ℕ
limit_of (parts.Register place) = 32
limit_of (parts.Twice place other) = 32
limit_of (parts.Number place greatest) = min (greatest + 1) greatest_word
limit_of (parts.Special place) = 1024
limit_of (parts.Signed place greatest) = 0x10000
limit_of (parts.Unsigned place) = 0x10000
limit_of (parts.Target place Long) = 0x1000000
limit_of (parts.Target place Short) = 0x4000
limit_of part = 0

-- the limits of all fields, with those of these parts filled in
abbrev pub limits_from : List Part → List ℕ → List ℕ
limits_from [] limits = limits
limits_from (p ∷ ps) limits = limits_from ps (with_value limits p (limit_of p))

-- the numbers that the fields of an instruction lie below; it is 2 for an ending's field, and 0 means that there is no field
unfoldable pub limits_of : Named → List ℕ
limits_of m = limits_from (parts_of m.shape) (flagged m.endings (record { first = 2; second = 2 }))

-- a field lies below its limit; if the limit is 0, the field is 0
abbrev pub lies_below : ℕ → ℕ → Bool
lies_below limit value = if nat_eq limit 0 then nat_eq value 0 else nat_lt value limit

-- each field lies below its limit
abbrev pub are_within : List ℕ → List ℕ → Bool
are_within [] [] = true
are_within [] (f ∷ fs) = false
are_within (l ∷ ls) [] = false
are_within (l ∷ ls) (f ∷ fs) = lies_below l f && are_within ls fs

-- the number of the special register from its field, which has the two halves of 5 bits exchanged
abbrev pub special_of : ℕ → ℕ
special_of field = field % 32 * 32 + field / 32

-- fields meet a rule: field 0 is the target or BO, and field 1 is the base or the special register
unfoldable pub holds : Rule → List ℕ → Bool
holds Any fs = true
holds LoadUpdate fs = not (nat_eq (slice_index fs 1) 0) && not (nat_eq (slice_index fs 1) (slice_index fs 0))
holds StoreUpdate fs = not (nat_eq (slice_index fs 1) 0)
holds LoadMultiple fs = nat_lt (slice_index fs 1) (slice_index fs 0)
holds SpecialRegister fs = nat_eq (special_of (slice_index fs 1)) 1 || nat_eq (special_of (slice_index fs 1)) 8 || nat_eq (special_of (slice_index fs 1)) 9
holds NoCount fs = nat_eq (slice_index fs 0 / 4 % 2) 1
