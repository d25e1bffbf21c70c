-- The format of `printf`: a list of pieces, each a byte or a conversion (ISO C, `fprintf`; the supported flags and
-- letters are
-- this project's own).
use Rattle.std.specs.Prelude.{ℕ, zero, suc, ◌+◌, ◌||◌, ◌==◌, Bool, List, [], ◌∷◌, Option, None, Some, take, drop, if◌then◌else◌}
use Rattle.std.specs.List.{list_any, prefix_len}
use Rattle.std.specs.Char.{is_ascii_digit}
use Rattle.wind_base.specs.Decimal.{decimal_value}
use Rattle.text_show.specs.declared.format.Letter.{Letter}
use Rattle.text_show.specs.declared.format.Letter.TheVariants.{Signed, Unsigned, LowerHex, UpperHex, Octal, Character, Text, Pointer, Percent}
use Rattle.text_show.specs.declared.format.Style.{Style}
use Rattle.text_show.specs.declared.format.Conversion.{Conversion}

-- the byte that begins a conversion, `%`
abbrev pub is_percent : ℕ → Bool
is_percent b = b == 37

-- the flags `-` and `0`
abbrev pub is_minus : ℕ → Bool
is_minus b = b == 45

abbrev pub is_zero : ℕ → Bool
is_zero b = b == 48

abbrev pub is_flag : ℕ → Bool
is_flag b = is_minus b || is_zero b

-- `l` and `h`
abbrev pub is_size : ℕ → Bool
is_size b = b == 108 || b == 104

-- the kind of a letter: `d` `i`, `u`, `x`, `X`, `o`, `c`, `s`, `p`, `%`
abbrev pub letter_of : ℕ → Option Letter
letter_of b =
    if b == 100 || b == 105 then Some Signed else
    if b == 117 then Some Unsigned else
    if b == 120 then Some LowerHex else
    if b == 88 then Some UpperHex else
    if b == 111 then Some Octal else
    if b == 99 then Some Character else
    if b == 115 then Some Text else
    if b == 112 then Some Pointer else
    if b == 37 then Some Percent else None

-- how many of the first bytes pass the test
abbrev pub run_of : (ℕ → Bool) → List ℕ → ℕ
run_of test bytes = prefix_len test bytes

-- the greatest width
abbrev pub widest : ℕ
widest = 999

-- the width in decimal digits, 0 if there are none
abbrev pub width_of : List ℕ → Option ℕ
width_of [] = Some 0
width_of (d ∷ ds) = decimal_value widest (d ∷ ds)

-- one `l` or `h` may come before the letter
abbrev pub size_of : List ℕ → ℕ
size_of [] = 0
size_of (b ∷ bs) = if is_size b then 1 else 0

abbrev pub first_letter : List ℕ → Option Letter
first_letter [] = None
first_letter (b ∷ bs) = letter_of b

abbrev pub style_of : List ℕ → ℕ → Style
style_of flags width = record { left = list_any is_minus flags; zero = list_any is_zero flags; width = width }

abbrev pub with_letter : List ℕ → Option ℕ → Option Letter → ℕ → Option Conversion
with_letter flags None letter taken = None
with_letter flags (Some width) None taken = None
with_letter flags (Some width) (Some letter) taken = Some record { style = style_of flags width; letter = letter; taken = taken }

-- the conversion that these bytes, after `%`, begin with: flags, a width, `l` or `h`, a letter
unfoldable pub conversion_at : List ℕ → Option Conversion
conversion_at bytes =
    let flags = run_of is_flag bytes in
    let after_flags = drop flags bytes in
    let digits = run_of is_ascii_digit after_flags in
    let after_width = drop digits after_flags in
    let size = size_of after_width in
    with_letter (take flags bytes) (width_of (take digits after_flags)) (first_letter (drop size after_width)) (flags + digits + size + 1)

-- a piece: a byte that stands for itself, or a conversion
pub data Piece : Type 0 where
  Byte : ℕ → Piece
  Converted : Conversion → Piece

abbrev pub converted_or : ℕ → Option Conversion → Piece
converted_or b None = Byte b
converted_or b (Some c) = Converted c

-- the conversion that begins with byte b, before other bytes
abbrev pub conversion_of : ℕ → List ℕ → Option Conversion
conversion_of b bytes = if is_percent b then conversion_at bytes else None

-- the piece that begins with byte b, before other bytes
abbrev pub piece_at : ℕ → List ℕ → Piece
piece_at b bytes = converted_or b (conversion_of b bytes)

-- how many bytes after its first a piece takes
abbrev pub more_of : Piece → ℕ
more_of (Byte b) = 0
more_of (Converted c) = c.taken

-- the pieces of a format after its first `skip` bytes
abbrev pub pieces : ℕ → List ℕ → List Piece
pieces skip [] = []
pieces zero (b ∷ bytes) = piece_at b bytes ∷ pieces (more_of (piece_at b bytes)) bytes
pieces (suc skip) (b ∷ bytes) = pieces skip bytes
