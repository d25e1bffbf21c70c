-- Numbers in decimal digits.
use Rattle.std.specs.Prelude.{ℕ, List, Option, Some, None, Bool, ◌==◌, ◌&&◌, not, nat_le, if◌then◌else◌, length}
use Rattle.std.specs.Char.{is_ascii_digit}
use Rattle.std.specs.List.{list_all}
use Rattle.std.specs.Str.Parse.{digits_value}

-- a numeral: one or more bytes, all decimal digits
abbrev pub is_numeral : List ℕ → Bool
is_numeral text = not (length text == 0) && list_all is_ascii_digit text

-- the number that digits write, if it is at most the given one
abbrev pub number_within : ℕ → List ℕ → Option ℕ
number_within most digits = if nat_le (digits_value 10 digits) most then Some (digits_value 10 digits) else None

-- the number that a text writes, if it is a numeral and the number is at most the given one
unfoldable pub decimal_value : ℕ → List ℕ → Option ℕ
decimal_value most text = if is_numeral text then number_within most text else None
