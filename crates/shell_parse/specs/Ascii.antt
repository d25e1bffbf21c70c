-- Bytes of a line by their kind, as ASCII characters.
use Rattle.std.specs.Prelude.{ℕ, Bool, false, List, [], ◌∷◌, ◌==◌, ◌&&◌, not}
use Prim.Native.Char.{code}
use Rattle.source_text.specs.Words.{is_blank}

-- a byte of the name of a file, which ends before a blank or a semicolon
abbrev pub is_file_byte : ℕ → Bool
is_file_byte b = not (is_blank b) && not (b == code ";")

-- whether the first byte is this one
abbrev pub next_is : ℕ → List ℕ → Bool
next_is c [] = false
next_is c (b ∷ bs) = b == c
