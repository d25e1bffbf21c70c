-- Comparisons, traps, the condition register and special registers (Book I 2.4.3, 2.4.4, 3.3.9, 3.3.10, 3.3.13).
use Rattle.std.specs.Prelude.{ℕ, zero, suc, ◌+◌, ◌-◌, ◌*◌, ◌^◌, Bool, ◌==◌, ◌&&◌, ◌||◌, nat_lt, if◌then◌else◌, int_lt}
use Rattle.wind_base.specs.declared.regs.Regs.{Regs}
use Rattle.ppc_core.specs.Words.{bits, with_bits, signed}
use Rattle.ppc_core.specs.Fields.{rt, ra, rb, bf, fxm}
use Rattle.ppc_core.specs.Registers.{so, order, with_cr_field}

-- CR field BF becomes the result of a signed comparison of two words
unfoldable pub with_signed_order : Regs → ℕ → ℕ → ℕ → Regs
with_signed_order r w x y =
    with_cr_field r (bf w) (order (int_lt (signed x) (signed y)) (int_lt (signed y) (signed x)) (so r))

-- CR field BF becomes the result of an unsigned comparison of two words
unfoldable pub with_order : Regs → ℕ → ℕ → ℕ → Regs
with_order r w x y = with_cr_field r (bf w) (order (nat_lt x y) (nat_lt y x) (so r))

-- whether a bit of TO is set and its relation holds: less and greater as signed, equal, less and greater as unsigned
unfoldable pub traps : ℕ → ℕ → ℕ → Bool
traps w x y =
    (bits w 6 6 == 1 && int_lt (signed x) (signed y))
    || (bits w 7 7 == 1 && int_lt (signed y) (signed x))
    || (bits w 8 8 == 1 && x == y)
    || (bits w 9 9 == 1 && nat_lt x y)
    || (bits w 10 10 == 1 && nat_lt y x)

-- CR bit BA
abbrev pub in_ba : Regs → ℕ → ℕ
in_ba r w = bits r.cr (ra w) (ra w)

-- CR bit BB
abbrev pub in_bb : Regs → ℕ → ℕ
in_bb r w = bits r.cr (rb w) (rb w)

-- CR bit BT is set to a bit
unfoldable pub with_bt : Regs → ℕ → ℕ → Regs
with_bt r w value = record r { cr = with_bits r.cr (rt w) (rt w) value }

-- the other bit
abbrev pub inverted : ℕ → ℕ
inverted bit = 1 - bit

-- a field of the condition register
abbrev pub cr_field : Regs → ℕ → ℕ
cr_field r n = bits r.cr (4 * n) (4 * n + 3)

-- SO, OV and CA, which are all that XER holds here
abbrev pub flags : Regs → ℕ
flags r = bits r.xer 0 2

-- the condition register with those of its first n fields that FXM names taken from a word
abbrev pub moved_fields : ℕ → ℕ → ℕ → ℕ → ℕ
moved_fields cr s w zero = cr
moved_fields cr s w (suc k) =
    let before = moved_fields cr s w k in
    if fxm w k == 1 then with_bits before (4 * k) (4 * k + 3) (bits s (4 * k) (4 * k + 3)) else before

-- the content of a special register: 1 is XER, 8 is LR, 9 is CTR
abbrev pub special : Regs → ℕ → ℕ
special r n = if n == 1 then flags r * 2 ^ 29 else (if n == 8 then r.lr else r.ctr)

-- a special register is set; XER takes only SO, OV and CA
abbrev pub with_special : Regs → ℕ → ℕ → Regs
with_special r n value =
    if n == 1
    then record r { xer = bits value 0 2 * 2 ^ 29 }
    else (if n == 8 then record r { lr = value } else record r { ctr = value })
