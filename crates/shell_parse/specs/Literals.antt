-- Characters and strings: the project's choice of the literals of C (ISO/IEC 9899, 6.4.4 and 6.4.5).
use Rattle.std.specs.Prelude.{ℕ, List, ◌∷◌, Option, Some, None, ◌==◌, ◌&&◌, not, if◌then◌else◌}
use Prim.Native.Char.{code}
use Rattle.source_text.specs.Strings.{escaped}
use Rattle.shell_parse.specs.declared.token.Token.{Token}
use Rattle.shell_parse.specs.declared.token.Token.TheVariants.{Number, Str, Unknown}
use Rattle.shell_parse.specs.Ascii.{next_is}

-- a literal that isn't finished or isn't valid
abbrev pub unfinished : Token × ℕ
unfinished = (Unknown, 0)

-- the character of an escape, before these bytes
abbrev pub escaped_character : Option ℕ → List ℕ → Token × ℕ
escaped_character (Some v) bs = if next_is (code "'") bs then (Number v, 3) else unfinished
escaped_character None bs = unfinished

-- the character whose opening quote these bytes follow, and how many of them belong to it: one byte or one escape,
-- and the closing quote
abbrev pub character_at : List ℕ → Token × ℕ
character_at (b ∷ c ∷ bs) =
    if b == code "\\" then escaped_character (escaped c) bs else (if not (b == code "'") && c == code "'" then (Number b, 2) else unfinished)
character_at _ = unfinished

-- the token of a string, and how many bytes belong to it
abbrev pub string_token : Option (List ℕ × ℕ) → Token × ℕ
string_token (Some x) = (Str x.0, x.1)
string_token None = unfinished
