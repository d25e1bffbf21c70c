-- Masks and shifts (Book I 3.3.12).
use Rattle.std.specs.Prelude.{ℕ, ◌+◌, ◌-◌, ◌*◌, ◌/◌, ◌%◌, ◌^◌, Bool, not, ◌==◌, ◌&&◌, nat_lt, nat_le, min, if◌then◌else◌, bit_and, bit_or}
use Rattle.std.specs.Int.{rotate_left, w32}
use Rattle.wind_base.specs.declared.regs.Regs.{Regs}
use Rattle.ppc_core.specs.Words.{bits, bit, complement}
use Rattle.ppc_core.specs.Fields.{ra, mb, me}
use Rattle.ppc_core.specs.Registers.{in_rs, in_rb, with_ca, with_result}
pub use Rattle.ppc_word.specs.Bits.{ones, mask}

-- the mask from MB to ME
abbrev pub mask_of : ℕ → ℕ
mask_of w = mask (mb w) (me w)

-- (RS) rotated left by n bits
abbrev pub rotated : Regs → ℕ → ℕ → ℕ
rotated r w n = rotate_left w32 (in_rs r w) n

-- the bits of x where the mask has ones, and those of y where it has zeros
abbrev pub merged : ℕ → ℕ → ℕ → ℕ
merged mask x y = bit_or (bit_and x mask) (bit_and y (complement mask))

-- the distance of a shift by (RB): its last six bits
abbrev pub distance : Regs → ℕ → ℕ
distance r w = bits (in_rb r w) 26 31

-- a word shifted left by n bits
abbrev pub shifted_left : ℕ → ℕ → ℕ
shifted_left s n = if nat_lt n 32 then s * 2 ^ n % 2 ^ 32 else 0

-- a word shifted right by n bits
abbrev pub shifted_right : ℕ → ℕ → ℕ
shifted_right s n = if nat_lt n 32 then s / 2 ^ n else 0

-- whether a word is negative, read as signed
abbrev pub is_negative : ℕ → Bool
is_negative s = nat_le (2 ^ 31) s

-- a word shifted right, with copies of the sign shifted in; from 32 bits on, only those are left
abbrev pub shifted_signed : ℕ → ℕ → ℕ
shifted_signed s n =
    let k = min n 31 in s / 2 ^ k + (if is_negative s then 2 ^ 32 - 2 ^ (32 - k) else 0)

-- whether a negative word loses a 1 bit
abbrev pub loses_one : ℕ → ℕ → Bool
loses_one s n = is_negative s && not (s % 2 ^ n == 0)

-- RA becomes (RS) shifted in this way; Rc is respected; CA says whether a negative word lost a 1 bit
unfoldable pub with_signed_shift : Regs → ℕ → ℕ → Regs
with_signed_shift r w n =
    with_result (with_ca r (bit (loses_one (in_rs r w) n))) w (ra w) (shifted_signed (in_rs r w) n)
