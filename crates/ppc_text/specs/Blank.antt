-- The field of an instruction that a reference fills.
use Rattle.std.specs.Prelude.{◌≡◌, ℕ, ◌==◌, ◌||◌, if◌then◌else◌, List, slice_index, Option, Some, None}
use Rattle.ppc_text.specs.declared.token.Reference.{Reference}

-- the field of an instruction, counted from 0, that a relocation of this type fills: the first of `b` (R_PPC_REL24 and
-- R_PPC_ADDR24 of the PowerPC ABI supplement), and the third of every other instruction
abbrev pub relocated_field : ℕ → ℕ
relocated_field kind = if kind == 10 || kind == 2 then 0 else 2

-- the field that a reference fills is 0
abbrev pub IsBlank : Option Reference → List ℕ → Type 0
IsBlank (Some r) fields = slice_index fields (relocated_field r.kind) ≡ 0
IsBlank None fields = Unit {0}
