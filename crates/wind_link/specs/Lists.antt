-- The lines of a list: each names a module, the mode of its load, and the addresses of its segments.
use Rattle.std.specs.Prelude.{ℕ, ◌+◌, Bool, ◌==◌, ◌&&◌, ◌||◌, not, nat_le, if◌then◌else◌, List, [], ◌∷◌, ◌++◌, length, take, drop, Option, Some, None, Result, Ok, Err, bytes_eq, codes}
use Rattle.std.specs.List.{list_all, position_or_len, prefix_len}
use Rattle.std.specs.Str.Lossy.{utf8_valid_len}
use Rattle.std.specs.Str.Parse.{digits_value}
use Prim.Native.Char.{code}
use Rattle.source_text.specs.Lines.{onto_first}
use Rattle.source_text.specs.Blanks.{is_blank as parts_words}
use Rattle.source_text.specs.declared.words.Blanks.TheVariants.{Spaces}
use Rattle.module_image.specs.declared.segments.Places.{Places}
use Rattle.module_image.specs.Exports.{no_symbols}

-- ---- lines
-- the lines of a text: each 0x0A ends one, and the last may lack it
abbrev pub lines_of : List ℕ → List (List ℕ)
lines_of [] = []
lines_of (b ∷ bs) = if b == 10 then [] ∷ lines_of bs else onto_first b (lines_of bs)

-- ---- words
-- words are parted by blanks
abbrev pub is_blank : ℕ → Bool
is_blank b = parts_words Spaces b

-- the first word, and what comes after it and the blanks after it
abbrev pub first_word : List ℕ → List ℕ
first_word text = take (position_or_len is_blank text) text

abbrev pub after_blanks : List ℕ → List ℕ
after_blanks text = drop (prefix_len is_blank text) text

abbrev pub after_word : List ℕ → List ℕ
after_word text = after_blanks (drop (position_or_len is_blank text) text)

-- ---- fields
-- a name: one or more bytes that are UTF-8
abbrev pub is_name : List ℕ → Bool
is_name word = not (length word == 0) && utf8_valid_len word == length word

-- the load mode that a digit stands for
abbrev pub mode_of : List ℕ → Option ℕ
mode_of word =
    if bytes_eq word (codes "0") then Some 0 else
    (if bytes_eq word (codes "1") then Some 1 else
    (if bytes_eq word (codes "2") then Some no_symbols else None))

-- a lower-case hexadecimal digit
abbrev pub is_hex : ℕ → Bool
is_hex b = (nat_le (code "0") b && nat_le b (code "9")) || (nat_le (code "a") b && nat_le b (code "f"))

-- an address: exactly 8 such digits
abbrev pub address_of : List ℕ → Option ℕ
address_of word = if length word == 8 && list_all is_hex word then Some (digits_value 16 word) else None

-- ---- entries
-- what a line says: a module's name, the mode of its load, and the places of its segments
pub record Row : Type 0 where
  pub name : List ℕ
  pub mode : ℕ
  pub at : Places

-- the places with these three addresses
abbrev pub places_of : Option ℕ → Option ℕ → Option ℕ → Option Places
places_of (Some t) (Some d) (Some b) = Some (record { text = t; «data» = d; bss = b })
places_of _ _ _ = None

abbrev pub row_with : List ℕ → Option ℕ → Option Places → Option Row
row_with name (Some mode) (Some at) = if is_name name then Some (record { name = name; mode = mode; at = at }) else None
row_with name _ _ = None

-- the places that three words say
abbrev pub places_said : List ℕ → Option Places
places_said text =
    places_of (address_of (first_word text)) (address_of (first_word (after_word text)))
    (address_of (after_word (after_word text)))

-- what a line says: five words, with no blank before the first or after the last
unfoldable pub row_of : List ℕ → Option Row
row_of line = row_with (first_word line) (mode_of (first_word (after_word line))) (places_said (after_word (after_word line)))

-- ---- lists
-- the most lines of a list
abbrev pub most_lines : ℕ
most_lines = 256

-- line n is bad, or its row goes on
abbrev pub or_bad : ℕ → Option Row → (Row → Result (List Row) ℕ) → Result (List Row) ℕ
or_bad n None go = Err n
or_bad n (Some row) go = go row

-- these rows, and those of the lines that follow; or the number of the first bad line
abbrev pub rows_after : List Row → List (List ℕ) → Result (List Row) ℕ
rows_after rows [] = Ok rows
rows_after rows (line ∷ lines) =
    if nat_le most_lines (length rows) then Err (length rows + 1) else
    or_bad (length rows + 1) (row_of line) (λ row. rows_after (rows ++ row ∷ []) lines)

-- the rows of a list, or the number of its first bad line, counted from 1
unfoldable pub rows_of : List ℕ → Result (List Row) ℕ
rows_of text = rows_after [] (lines_of text)
