-- The single registers (Book I 2.3 and 3.2).
use Rattle.std.specs.Prelude.{ℕ, ◌+◌, ◌*◌, ◌%◌, ◌^◌, Bool, ◌==◌, if◌then◌else◌, max, pos, int_lt, slice_index, slice_set}
use Rattle.wind_base.specs.declared.regs.Regs.{Regs}
use Rattle.ppc_core.specs.Words.{bits, with_bits, bit, signed}
use Rattle.ppc_core.specs.Fields.{rt, ra, rb, oe, rc}

-- a general register
unfoldable pub gpr : Regs → ℕ → ℕ
gpr r n = slice_index r.gpr n

unfoldable pub with_gpr : Regs → ℕ → ℕ → Regs
with_gpr r n value = record r { gpr = slice_set r.gpr n value }

-- (RS), the content of the register RS that a word names
abbrev pub in_rs : Regs → ℕ → ℕ
in_rs r w = gpr r (rt w)

-- (RA), the content of register RA
abbrev pub in_ra : Regs → ℕ → ℕ
in_ra r w = gpr r (ra w)

-- (RB), the content of register RB
abbrev pub in_rb : Regs → ℕ → ℕ
in_rb r w = gpr r (rb w)

-- (RA|0): the content of register RA, or 0 if RA is register 0
abbrev pub in_ra_or_0 : Regs → ℕ → ℕ
in_ra_or_0 r w = if ra w == 0 then 0 else in_ra r w

-- SO of XER (Book I 3.2.2)
unfoldable pub so : Regs → ℕ
so r = bits r.xer 0 0

-- CA of XER (Book I 3.2.2)
unfoldable pub ca : Regs → ℕ
ca r = bits r.xer 2 2

unfoldable pub with_ca : Regs → ℕ → Regs
with_ca r carry = record r { xer = with_bits r.xer 2 2 carry }

-- OV becomes whether a result overflows, and SO is set if it does
unfoldable pub with_ov : Regs → Bool → Regs
with_ov r overflow = record r { xer = with_bits (with_bits r.xer 1 1 (bit overflow)) 0 0 (max (so r) (bit overflow)) }

-- the result of a comparison as four bits: less, greater, equal, SO
abbrev pub order : Bool → Bool → ℕ → ℕ
order less greater so = (if less then 8 else (if greater then 4 else 2)) + so

-- a field of the condition register is set (Book I 2.3.1)
unfoldable pub with_cr_field : Regs → ℕ → ℕ → Regs
with_cr_field r n value = record r { cr = with_bits r.cr (4 * n) (4 * n + 3) value }

-- CR0 becomes the result of comparing a number with 0
unfoldable pub with_cr0 : Regs → ℕ → Regs
with_cr0 r value = with_cr_field r 0 (order (int_lt (signed value) (pos 0)) (int_lt (pos 0) (signed value)) (so r))

-- register n becomes a result, and CR0 its comparison with 0
unfoldable pub with_recorded : Regs → ℕ → ℕ → Regs
with_recorded r n value = with_cr0 (with_gpr r n value) value

-- register n becomes a result, and with Rc, CR0 its comparison with 0
unfoldable pub with_result : Regs → ℕ → ℕ → ℕ → Regs
with_result r w n value = if rc w then with_recorded r n value else with_gpr r n value

-- the same for RT; with OE, OV and SO first record whether the result overflows
unfoldable pub with_checked_result : Regs → ℕ → ℕ → Bool → Regs
with_checked_result r w value overflow = with_result (if oe w then with_ov r overflow else r) w (rt w) value

-- the program counter becomes the address of the next instruction
unfoldable pub next : Regs → Regs
next r = record r { pc = (r.pc + 4) % 2 ^ 32 }
