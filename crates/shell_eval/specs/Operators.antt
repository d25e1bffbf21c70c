-- The values of the operators on words, which are numbers below 2 ^ 32.
use Rattle.std.specs.Prelude.{ℕ, ◌+◌, ◌-◌, ◌*◌, ◌%◌, ◌^◌, ◌==◌, ◌&&◌, ◌||◌, not, if◌then◌else◌, Option, Some, None, bit_and, bit_or, bit_xor, int_lt, int_le, int_div, int_rem}
use Rattle.std.specs.Option.{option_map}
use Rattle.std.specs.Int.{cast_unsigned, w32, int_shr}
use Rattle.ppc_core.specs.Words.{signed, complement, bit}
use Rattle.shell_parse.specs.declared.tree.BinOp.{BinOp}
use Rattle.shell_parse.specs.declared.tree.BinOp.TheVariants.{OrElse, AndAlso, Or, Xor, And, Eq, Ne, Lt, Le, Gt, Ge, Shl, Shr, Plus, Minus, Times, Over, Rest}
use Rattle.shell_parse.specs.declared.tree.UnOp.{UnOp}
use Rattle.shell_parse.specs.declared.tree.UnOp.TheVariants.{Neg, Not, Com}

-- the value of an operator with one operand
abbrev pub before_word : UnOp → ℕ → ℕ
before_word Neg a = (2 ^ 32 - a) % 2 ^ 32
before_word Not a = bit (a == 0)
before_word Com a = complement a

-- the quotient of two words read as signed, rounded toward 0
abbrev pub quotient : ℕ → ℕ → ℕ
quotient a b = cast_unsigned w32 (int_div (signed a) (signed b))

-- the remainder of two words read as signed
abbrev pub remainder : ℕ → ℕ → ℕ
remainder a b = cast_unsigned w32 (int_rem (signed a) (signed b))

-- a word shifted to the left by the last five bits of another
abbrev pub moved_left : ℕ → ℕ → ℕ
moved_left a b = (a * 2 ^ (b % 32)) % 2 ^ 32

-- a word, read as signed, shifted to the right
abbrev pub moved_right : ℕ → ℕ → ℕ
moved_right a b = cast_unsigned w32 (int_shr (signed a) (b % 32))

-- the quotient and the remainder, if the divisor isn't 0
abbrev pub divided : ℕ → ℕ → Option (ℕ × ℕ)
divided a b = if b == 0 then None else Some (quotient a b, remainder a b)

-- the value of an operator with two operands, or none for a divisor of 0
abbrev pub between_words : BinOp → ℕ → ℕ → Option ℕ
between_words OrElse a b = Some (bit (not (a == 0) || not (b == 0)))
between_words AndAlso a b = Some (bit (not (a == 0) && not (b == 0)))
between_words Or a b = Some (bit_or a b)
between_words Xor a b = Some (bit_xor a b)
between_words And a b = Some (bit_and a b)
between_words Eq a b = Some (bit (a == b))
between_words Ne a b = Some (bit (not (a == b)))
between_words Lt a b = Some (bit (int_lt (signed a) (signed b)))
between_words Le a b = Some (bit (int_le (signed a) (signed b)))
between_words Gt a b = Some (bit (int_lt (signed b) (signed a)))
between_words Ge a b = Some (bit (int_le (signed b) (signed a)))
between_words Shl a b = Some (moved_left a b)
between_words Shr a b = Some (moved_right a b)
between_words Plus a b = Some ((a + b) % 2 ^ 32)
between_words Minus a b = Some (((a + 2 ^ 32) - b) % 2 ^ 32)
between_words Times a b = Some (a * b % 2 ^ 32)
between_words Over a b = option_map (λ x. x.0) (divided a b)
between_words Rest a b = option_map (λ x. x.1) (divided a b)
