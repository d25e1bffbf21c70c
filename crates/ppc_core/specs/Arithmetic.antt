-- Sums, products and quotients (Book I 3.3.8).
use Rattle.std.specs.Prelude.{ℕ, ◌+◌, ◌-◌, ◌*◌, ◌/◌, ◌%◌, ◌^◌, Bool, not, ◌==◌, ◌&&◌, ◌||◌, if◌then◌else◌, pos, ◌+ℤ◌, ◌*ℤ◌, int_div}
use Rattle.std.specs.Int.{cast_unsigned, w32, w64}
use Rattle.wind_base.specs.declared.regs.Regs.{Regs}
use Rattle.ppc_core.specs.Words.{signed, fits}
use Rattle.ppc_core.specs.Fields.{rt}
use Rattle.ppc_core.specs.Registers.{with_gpr, with_ca, with_checked_result}

-- the sum of two words and a carry
abbrev pub sum : ℕ → ℕ → ℕ → ℕ
sum x y c = (x + y + c) % 2 ^ 32

-- the carry out of that sum
abbrev pub carry : ℕ → ℕ → ℕ → ℕ
carry x y c = (x + y + c) / 2 ^ 32

-- whether the sum, read as signed, overflows a word
abbrev pub sum_overflows : ℕ → ℕ → ℕ → Bool
sum_overflows x y c = not (fits (signed x +ℤ signed y +ℤ pos c))

-- RT becomes the sum, and CA its carry
unfoldable pub with_carrying : Regs → ℕ → ℕ → ℕ → ℕ → Regs
with_carrying r w x y c = with_gpr (with_ca r (carry x y c)) (rt w) (sum x y c)

-- RT becomes the sum; OE and Rc are respected
unfoldable pub with_sum : Regs → ℕ → ℕ → ℕ → ℕ → Regs
with_sum r w x y c = with_checked_result r w (sum x y c) (sum_overflows x y c)

-- the same, and CA becomes its carry
unfoldable pub with_sum_carrying : Regs → ℕ → ℕ → ℕ → ℕ → Regs
with_sum_carrying r w x y c = with_sum (with_ca r (carry x y c)) w x y c

-- the product of two words, read as signed, as a 64-bit number
abbrev pub signed_product : ℕ → ℕ → ℕ
signed_product x y = cast_unsigned w64 (signed x *ℤ signed y)

-- the low half of that product
abbrev pub low_signed : ℕ → ℕ → ℕ
low_signed x y = signed_product x y % 2 ^ 32

-- the high half of that product
abbrev pub high_signed : ℕ → ℕ → ℕ
high_signed x y = signed_product x y / 2 ^ 32

-- the high half of the product of two words, read as unsigned
abbrev pub high_unsigned : ℕ → ℕ → ℕ
high_unsigned x y = x * y / 2 ^ 32

-- whether the product of two words, read as signed, overflows a word
abbrev pub product_overflows : ℕ → ℕ → Bool
product_overflows x y = not (fits (signed x *ℤ signed y))

-- the quotient of two words, read as unsigned; 0 for a division by 0
abbrev pub quotient : ℕ → ℕ → ℕ
quotient x y = if y == 0 then 0 else x / y

-- whether two words, read as signed, have no quotient that fits: a division by 0, and -2 ^ 31 by -1
abbrev pub has_no_quotient : ℕ → ℕ → Bool
has_no_quotient x y = y == 0 || (x == 2 ^ 31 && y == 2 ^ 32 - 1)

-- the quotient of two words, read as signed, rounded toward 0; 0 if there is none
abbrev pub signed_quotient : ℕ → ℕ → ℕ
signed_quotient x y = if has_no_quotient x y then 0 else cast_unsigned w32 (int_div (signed x) (signed y))

-- RT becomes the low word of a product; OE and Rc are respected
abbrev pub with_product : Regs → ℕ → ℕ → ℕ → Regs
with_product r w x y = with_checked_result r w (low_signed x y) (product_overflows x y)

-- RT becomes an unsigned quotient; OE and Rc are respected
abbrev pub with_quotient : Regs → ℕ → ℕ → ℕ → Regs
with_quotient r w x y = with_checked_result r w (quotient x y) (y == 0)

-- RT becomes a signed quotient; OE and Rc are respected
abbrev pub with_signed_quotient : Regs → ℕ → ℕ → ℕ → Regs
with_signed_quotient r w x y = with_checked_result r w (signed_quotient x y) (has_no_quotient x y)
