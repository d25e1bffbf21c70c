-- The tokens of a line: the project's own rules of spelling for the shell's language.
use Rattle.std.specs.Prelude.{ℕ, zero, suc, ◌+◌, List, [], ◌∷◌, Option, Some, None, ◌==◌, if◌then◌else◌, take, map, bytes_eq, codes}
use Rattle.std.specs.Char.{is_ascii_digit}
use Rattle.std.specs.List.{prefix_len}
use Prim.Native.Char.{code}
use Rattle.shell_parse.specs.declared.tree.BinOp.TheVariants.{Lt}
use Rattle.shell_parse.specs.declared.token.Token.{Token}
use Rattle.shell_parse.specs.declared.token.Token.TheVariants.{Number, Name, Operator, Semi, Redirect, File, Unknown}
use Rattle.shell_parse.specs.declared.token.Spot.{Spot}
use Rattle.shell_parse.specs.declared.token.Spot.TheVariants.{AtStart, AfterLd, AtFile, Within}
use Rattle.source_text.specs.Words.{is_blank, is_word_byte}
use Rattle.source_text.specs.Numbers.{number_of}
use Rattle.source_text.specs.Strings.{string_at}
use Rattle.shell_parse.specs.Ascii.{is_file_byte}
use Rattle.shell_parse.specs.Literals.{character_at, string_token}
use Rattle.shell_parse.specs.Signs.{sign_at}

-- the token of a number, if there is one
abbrev pub number_token : Option ℕ → Token
number_token (Some n) = Number n
number_token None = Unknown

-- a word is a number if its first byte is a digit, else a name
abbrev pub word_token : ℕ → List ℕ → Token
word_token b word = if is_ascii_digit b then number_token (number_of word) else Name word

-- the byte b, and the bytes after it that may be in a word
abbrev pub word_at : ℕ → List ℕ → Token × ℕ
word_at b bs = (word_token b (b ∷ take (prefix_len is_word_byte bs) bs), prefix_len is_word_byte bs)

-- the byte b, and the bytes after it up to a blank or a semicolon, are a file; a semicolon begins no file
abbrev pub file_at : ℕ → List ℕ → Token × ℕ
file_at b bs = if b == code ";" then (Semi, 0) else (File (b ∷ take (prefix_len is_file_byte bs) bs), prefix_len is_file_byte bs)

-- the token that begins with the byte b, which isn't a blank, followed by the bytes bs, and how many of these
-- belong to it
abbrev pub any_at : ℕ → List ℕ → Token × ℕ
any_at b bs =
    if is_word_byte b then word_at b bs
    else (if b == code "'" then character_at bs
    else (if b == code "\"" then string_token (string_at bs)
    else sign_at b bs))

-- after `ld`, `<` isn't a comparison
abbrev pub redirected : Token → Token
redirected (Operator Lt) = Redirect
redirected t = t

-- the token at this spot that begins with the byte b, and how many of the bytes bs belong to it
unfoldable pub token_at : Spot → ℕ → List ℕ → Token × ℕ
token_at AtStart b bs = any_at b bs
token_at AfterLd b bs = (redirected (any_at b bs).0, (any_at b bs).1)
token_at AtFile b bs = file_at b bs
token_at Within b bs = any_at b bs

-- the spot after a name that begins a statement
abbrev pub after_name : List ℕ → Spot
after_name name = if bytes_eq name (codes "ld") then AfterLd else Within

-- the spot after a token
abbrev pub spot_after : Spot → Token → Spot
spot_after spot Semi = AtStart
spot_after AtStart (Name x) = after_name x
spot_after AfterLd Redirect = AtFile
spot_after spot t = Within

-- a token with the column of its first byte, counted from 1
pub record Placed : Type 0 where
  pub token : Token
  pub column : ℕ

-- the tokens of these bytes; the first byte is at this spot and column, and the first `passed` bytes belong to the
-- token before
abbrev pub tokens_from : Spot → ℕ → ℕ → List ℕ → List Placed
tokens_from spot column passed [] = []
tokens_from spot column (suc passed) (b ∷ bs) = tokens_from spot (column + 1) passed bs
tokens_from spot column zero (b ∷ bs) = if is_blank b
    then tokens_from spot (column + 1) 0 bs
    else record { token = (token_at spot b bs).0; column = column } ∷ tokens_from (spot_after spot (token_at spot b bs).0) (column + 1) (token_at spot b bs).1 bs

-- the tokens of a line, each with the column of its first byte, counted from 1
unfoldable pub tokens_of : List ℕ → List Placed
tokens_of line = tokens_from AtStart 1 0 line

-- the tokens without their columns
abbrev pub bare : List Placed → List Token
bare tokens = map (λ t. t.token) tokens

-- the columns of the tokens
abbrev pub columns : List Placed → List ℕ
columns tokens = map (λ t. t.column) tokens
