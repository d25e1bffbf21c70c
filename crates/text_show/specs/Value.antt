-- The line that shows the value of a statement; it is this project's own.
use Rattle.std.specs.Prelude.{ℕ, List, [], ◌∷◌, ◌++◌, ◌&&◌, false, nat_le, if◌then◌else◌, codes}
use Rattle.std.specs.Fmt.{signed_decimal, digits}
use Rattle.std.specs.Int.{cast_signed, w32}

-- the character of a word, as ` = 'c'`, if it is a printable ASCII character
abbrev pub character_text : ℕ → List ℕ
character_text v = if nat_le 32 v && nat_le v 126 then codes " = '" ++ v ∷ codes "'" else []

-- the line: signed in decimal digits, in hexadecimal digits, and as a character if it is one
unfoldable pub value_text : ℕ → List ℕ
value_text v =
    codes "value = " ++ signed_decimal (cast_signed w32 v) ++ codes " = 0x" ++ digits 16 false v ++ character_text v ++ codes "\n"
