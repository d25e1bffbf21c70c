-- Numbers as texts.
use Rattle.std.specs.Prelude.{ℕ, zero, suc, ◌/◌, ◌%◌, List, [], ◌∷◌, ◌++◌, false}
use Rattle.std.specs.Fmt.{digit_glyph, digits_onto}

-- a number in at most k hexadecimal digits, without leading zeros
unfoldable pub hex_within : ℕ → ℕ → List ℕ
hex_within k n = digits_onto k 16 false n []

-- the given number of lowest hexadecimal digits of a number, in lower case, with leading zeros
abbrev pub hex_places : ℕ → ℕ → List ℕ
hex_places zero n = []
hex_places (suc places) n = hex_places places (n / 16) ++ digit_glyph false (n % 16) ∷ []
