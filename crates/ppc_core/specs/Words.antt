-- Words are numbers below 2 ^ 32. Their bits are numbered from the most significant, which is bit 0 (Book I 1.3.2).
use Rattle.std.specs.Prelude.{ℕ, ◌+◌, ◌-◌, ◌*◌, ◌/◌, ◌%◌, ◌^◌, Bool, ◌&&◌, if◌then◌else◌, ℤ, pos, negsuc, int_le, int_lt}
use Rattle.std.specs.Int.{cast_signed, w32}
pub use Rattle.ppc_word.specs.Bits.{bits, complement, sign_extended}

-- the word with another number in bits `first` to `last`; the bits before and after them stay
abbrev pub with_bits : ℕ → ℕ → ℕ → ℕ → ℕ
with_bits word first last value =
    word / 2 ^ (32 - first) * 2 ^ (32 - first) + value * 2 ^ (31 - last) + word % 2 ^ (31 - last)

-- a word, read as signed
abbrev pub signed : ℕ → ℤ
signed word = cast_signed w32 word

-- whether a number is a word, read as signed
abbrev pub fits : ℤ → Bool
fits z = int_le (negsuc (2 ^ 31 - 1)) z && int_lt z (pos (2 ^ 31))

-- 1 for true, 0 for false
abbrev pub bit : Bool → ℕ
bit b = if b then 1 else 0
