-- What `printf` writes: the conversions of the C language (ISO C, `fprintf`) that this project supports.
use Rattle.std.specs.Prelude.{◌≡◌, ℕ, ◌+◌, ◌-◌, ◌*◌, ◌^◌, ◌%◌, ◌&&◌, Bool, true, false, nat_lt, nat_le, if◌then◌else◌, List, [], ◌∷◌, ◌++◌, length, take, codes, Option, None, Some, slice_get}
use Rattle.std.specs.Option.{option_map}
use Rattle.std.specs.Fmt.{decimal, digits, ◌++?◌}
use Rattle.board_mem.specs.Memory.{read, string_at}
use Rattle.wind_base.specs.Limits.{longest_print}
use Rattle.wind_base.specs.OutBuf.{Output, appended}
use Rattle.text_show.specs.declared.format.Letter.{Letter}
use Rattle.text_show.specs.declared.format.Letter.TheVariants.{Signed, Unsigned, LowerHex, UpperHex, Octal, Character, Text, Pointer, Percent}
use Rattle.text_show.specs.declared.format.Style.{Style}
use Rattle.text_show.specs.declared.values.Values.{Values}
use Rattle.text_show.specs.Format.{Piece, Byte, Converted, pieces}
use Rattle.text_show.specs.Columns.{blanks, zeros}

-- where the values come from: the first seven, then words on the stack, and RAM
pub record Source : Type 0 where
  pub first : List ℕ
  pub stack : ℕ
  pub ram : List ℕ

abbrev pub source_of : Values → Source
source_of v = record { first = v.first.now; stack = v.stack; ram = v.ram.now.bytes }

-- value number n, counted from 0; after the first seven come the words from 8 bytes above the stack pointer on
abbrev pub value_at : Source → ℕ → Option ℕ
value_at s n = if nat_lt n 7 then slice_get s.first n else read 4 s.ram (s.stack + 8 + 4 * (n - 7))

-- a word read as a signed number is negative
abbrev pub is_minus_word : ℕ → Bool
is_minus_word v = nat_le (2 ^ 31) v

-- the absolute value of the signed number
abbrev pub magnitude : ℕ → ℕ
magnitude v = if is_minus_word v then 2 ^ 32 - v else v

-- what comes before the digits of a number
abbrev pub sign_of : Letter → ℕ → List ℕ
sign_of Signed v = if is_minus_word v then codes "-" else []
sign_of Pointer v = codes "0x"
sign_of _ v = []

-- the digits of a number
abbrev pub digits_of : Letter → ℕ → List ℕ
digits_of Signed v = decimal (magnitude v)
digits_of Unsigned v = decimal v
digits_of LowerHex v = digits 16 false v
digits_of UpperHex v = digits 16 true v
digits_of Octal v = digits 8 false v
digits_of Pointer v = digits 16 false v
digits_of _ v = []

-- a padded text: with blanks after it or before it, or with zeros after the sign of a number
abbrev pub filled : Style → Bool → List ℕ → List ℕ → List ℕ
filled style number sign body =
    let more = style.width - length sign - length body in
    if style.left then sign ++ body ++ blanks more else
    if number && style.zero then sign ++ zeros more ++ body else
    blanks more ++ sign ++ body

abbrev pub number_text : Style → Letter → ℕ → List ℕ
number_text style letter v = filled style true (sign_of letter v) (digits_of letter v)

-- a text that isn't a number
abbrev pub plain_text : Style → List ℕ → List ℕ
plain_text style body = filled style false [] body

-- the string at an address, if there is an address
abbrev pub string_of : List ℕ → Option ℕ → Option (List ℕ)
string_of ram None = None
string_of ram (Some at) = string_at ram at

-- the text of a conversion whose first value has number n
abbrev pub conversion_text : Source → ℕ → Style → Letter → Option (List ℕ)
conversion_text s n style Percent = Some (plain_text style (codes "%"))
conversion_text s n style Character = option_map (λ v. plain_text style (v % 256 ∷ [])) (value_at s n)
conversion_text s n style Text = option_map (plain_text style) (string_of s.ram (value_at s n))
conversion_text s n style letter = option_map (number_text style letter) (value_at s n)

-- how many values a conversion takes
abbrev pub values_of : Letter → ℕ
values_of Percent = 0
values_of _ = 1

abbrev pub piece_text : Source → ℕ → Piece → Option (List ℕ)
piece_text s n (Byte b) = Some (b ∷ [])
piece_text s n (Converted c) = conversion_text s n c.style c.letter

abbrev pub piece_values : Piece → ℕ
piece_values (Byte b) = 0
piece_values (Converted c) = values_of c.letter

-- the text of pieces, if all values that they take can be read; the values are taken in order
abbrev pub text_of : Source → ℕ → List Piece → Option (List ℕ)
text_of s n [] = Some []
text_of s n (p ∷ ps) = piece_text s n p ++? text_of s (n + piece_values p) ps

abbrev pub format_text : Source → Option (List ℕ) → Option (List ℕ)
format_text s None = None
format_text s (Some format) = text_of s 0 (pieces 0 format)

-- what a call writes: the text of the format at an address, cut to the longest that one call writes; none if a
-- string or a word
-- that it needs can't be read
unfoldable pub printf_of : Source → ℕ → Option (List ℕ)
printf_of s format = option_map (take longest_print) (format_text s (string_at s.ram format))

-- the output after a call has written
abbrev pub written : Output → Option (List ℕ) → Output
written out None = out
written out (Some text) = appended out text

-- what a step that adds to a text of at most 4,096 bytes leaves
abbrev pub Prints : Option (List ℕ) → Bool → List ℕ → List ℕ → Type 0
Prints None done old new = done ≡ false
Prints (Some text) done old new = (done ≡ true) × (new ≡ take longest_print (old ++ text))
