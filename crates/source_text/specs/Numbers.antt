-- Numbers: a selection of the literals of C (ISO/IEC 9899, 6.4.4).
use Rattle.std.specs.Prelude.{ℕ, Bool, List, ◌∷◌, Option, Some, None, ◌==◌, ◌&&◌, not, nat_le, if◌then◌else◌, length}
use Rattle.std.specs.Char.{is_digit}
use Rattle.std.specs.List.{list_all}
use Rattle.std.specs.Str.Parse.{digits_value}
use Prim.Native.Char.{code}
use Rattle.wind_base.specs.Limits.{greatest_word}

-- these are digits of the radix, at least one
abbrev pub are_digits : ℕ → List ℕ → Bool
are_digits radix digits = not (length digits == 0) && list_all (λ b. is_digit b radix) digits

-- a number, if it fits 32 bits
abbrev pub value_within : ℕ → Option ℕ
value_within value = if nat_le value greatest_word then Some value else None

-- the number that these write as digits of the radix, if they are such digits and the number fits 32 bits
abbrev pub number_in : ℕ → List ℕ → Option ℕ
number_in radix digits = if are_digits radix digits then value_within (digits_value radix digits) else None

-- the number that a word writes: hexadecimal after `0x`, octal after `0`, else decimal
abbrev pub number_of : List ℕ → Option ℕ
number_of (b ∷ c ∷ bs) = if b == code "0" && c == code "x" then number_in 16 bs else (if b == code "0" then number_in 8 (b ∷ c ∷ bs) else number_in 10 (b ∷ c ∷ bs))
number_of word = number_in 10 word
