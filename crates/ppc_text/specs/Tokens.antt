-- The tokens of a line, spelled as assemblers for PowerPC spell them.
use Rattle.std.specs.Prelude.{ℕ, zero, suc, ◌+◌, List, [], ◌∷◌, Option, Some, None, ◌==◌, nat_le, if◌then◌else◌, length, take, drop, bytes_eq, codes}
use Rattle.std.specs.Char.{is_ascii_digit}
use Rattle.std.specs.List.{prefix_len}
use Prim.Native.Char.{code}
use Rattle.wind_base.specs.Limits.{longest_name}
use Rattle.ppc_text.specs.declared.token.Half.{Half}
use Rattle.ppc_text.specs.declared.token.Half.TheVariants.{Low, High, HighAdjusted}
use Rattle.ppc_text.specs.declared.token.Token.{Token}
use Rattle.ppc_text.specs.declared.token.Token.TheVariants.{Number, Str, Name, Dotted, Part, Colon, Comma, Open, Close, Plus, Minus, Unknown}
use Rattle.source_text.specs.Words.{is_blank, is_word_byte}
use Rattle.source_text.specs.Numbers.{number_of}
use Rattle.source_text.specs.Strings.{string_at}

-- the token of a number; Unknown if there is none
abbrev pub number_token : Option ℕ → Token
number_token (Some n) = Number n
number_token None = Unknown

-- the token of a name; Unknown if it has more than 255 bytes
abbrev pub name_token : List ℕ → Token
name_token word = if nat_le (length word) longest_name then Name word else Unknown

-- a word is a number if its first byte is a digit, else a name
abbrev pub word_token : ℕ → List ℕ → Token
word_token b word = if is_ascii_digit b then number_token (number_of word) else name_token word

-- the length of the prefix that belongs to a word
abbrev pub word_len : List ℕ → ℕ
word_len bs = prefix_len is_word_byte bs

-- 1 if the bytes begin with a dot, else 0
abbrev pub dot_first : List ℕ → ℕ
dot_first [] = 0
dot_first (b ∷ bs) = if b == code "." then 1 else 0

-- the length of the prefix that belongs to a name: the bytes of a word, and a dot after them
abbrev pub name_len : List ℕ → ℕ
name_len bs = word_len bs + dot_first (drop (word_len bs) bs)

-- the word that begins with the byte b, without a dot after it
abbrev pub plain_at : ℕ → List ℕ → Token × ℕ
plain_at b bs = (word_token b (b ∷ take (word_len bs) bs), word_len bs)

-- the word that begins with the byte b; a dot directly after a name belongs to it
abbrev pub word_at : ℕ → List ℕ → Token × ℕ
word_at b bs = if is_ascii_digit b then plain_at b bs
    else (if name_len bs == word_len bs then plain_at b bs else (Dotted (b ∷ take (name_len bs) bs), name_len bs))

-- the half of an address that the word after `@` names
abbrev pub half_of : List ℕ → Option Half
half_of word = if bytes_eq word (codes "l") then Some Low else (if bytes_eq word (codes "h") then Some High else (if bytes_eq word (codes "ha") then Some HighAdjusted else None))

-- the token of half an address; Unknown if there is none
abbrev pub half_token : Option Half → Token
half_token (Some h) = Part h
half_token None = Unknown

-- the token of a string, and how many bytes belong to it; Unknown if there is none
abbrev pub string_token : Option (List ℕ × ℕ) → Token × ℕ
string_token (Some x) = (Str x.0, x.1)
string_token None = (Unknown, 0)

-- the token of a single byte
abbrev pub mark_of : ℕ → Token
mark_of b = if b == code ":" then Colon else (if b == code "," then Comma else (if b == code "(" then Open else (if b == code ")" then Close else (if b == code "+" then Plus else (if b == code "-" then Minus else Unknown)))))

-- the token that begins with the byte b, which isn't a blank, and how many of the bytes bs after it belong to it
unfoldable pub token_at : ℕ → List ℕ → Token × ℕ
token_at b bs =
    if is_word_byte b then word_at b bs
    else (if b == code "." then (Dotted (b ∷ take (word_len bs) bs), word_len bs)
    else (if b == code "\"" then string_token (string_at bs)
    else (if b == code "@" then (half_token (half_of (take (word_len bs) bs)), word_len bs)
    else (mark_of b, 0))))

-- the tokens of these bytes after the first `passed`, which belong to the token before; a comment ends them
abbrev pub tokens_from : ℕ → List ℕ → List Token
tokens_from passed [] = []
tokens_from (suc passed) (b ∷ bs) = tokens_from passed bs
tokens_from zero (b ∷ bs) = if is_blank b then tokens_from 0 bs else (if b == code "#" then [] else (token_at b bs).0 ∷ tokens_from (token_at b bs).1 bs)

-- the tokens of a line
unfoldable pub tokens_of : List ℕ → List Token
tokens_of line = tokens_from 0 line
