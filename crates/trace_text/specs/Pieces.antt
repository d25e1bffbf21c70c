-- Pieces of the lines of a trace.
use Rattle.std.specs.Prelude.{ℕ, ◌/◌, ◌%◌, Bool, false, not, ◌==◌, ◌&&◌, nat_le, if◌then◌else◌, List, [], ◌∷◌, ◌++◌, codes}
use Rattle.std.specs.Fmt.{digit_glyph, digits, signed_decimal}
use Rattle.std.specs.Int.{cast_signed, w32}

-- a word as a signed number
abbrev pub signed : ℕ → List ℕ
signed v = signed_decimal (cast_signed w32 v)

-- a word in hexadecimal digits
abbrev pub word_hex : ℕ → List ℕ
word_hex v = codes "0x" ++ digits 16 false v

-- a byte that is shown as it is: from 0x20 to 0x7E, but neither the backslash nor the quote
abbrev pub is_plain : ℕ → Bool
is_plain b = nat_le 32 b && nat_le b 126 && not (b == 92) && not (b == 34)

-- a byte as it is shown: another one is a backslash, an `x` and its two hexadecimal digits
abbrev pub escaped_byte : ℕ → List ℕ
escaped_byte b = if is_plain b then b ∷ [] else 92 ∷ 120 ∷ digit_glyph false (b / 16) ∷ digit_glyph false (b % 16) ∷ []

-- bytes as they are shown
abbrev pub escaped : List ℕ → List ℕ
escaped [] = []
escaped (b ∷ bs) = escaped_byte b ++ escaped bs
