-- The kinds of the bytes of a line, which are ASCII characters.
use Rattle.std.specs.Prelude.{ℕ, Bool, ◌==◌, ◌||◌}
use Rattle.std.specs.Char.{is_ascii_alphanumeric}
use Prim.Native.Char.{code}

-- a space or a tab
abbrev pub is_blank : ℕ → Bool
is_blank b = b == code " " || b == code "\t"

-- a letter, a digit or an underscore: the bytes of names and numbers
abbrev pub is_word_byte : ℕ → Bool
is_word_byte b = is_ascii_alphanumeric b || b == code "_"
