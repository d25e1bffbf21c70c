-- Dumps of memory.
use Rattle.std.specs.Prelude.{ℕ, zero, suc, ◌+◌, ◌*◌, ◌/◌, ◌%◌, ◌==◌, ◌&&◌, nat_le, if◌then◌else◌, List, [], ◌∷◌, ◌++◌, length, take, drop, map, codes}
use Rattle.board_mem.specs.Memory.{bytes_at}
use Rattle.wind_base.specs.Texts.{hex_places}

-- a byte of a line, at its place in the line: a blank comes before each unit
abbrev pub unit_byte : ℕ → ℕ → ℕ → List ℕ
unit_byte width place b = (if place % width == 0 then codes " " else []) ++ hex_places 2 b

-- the bytes of a line, from a place on
abbrev pub units_text : ℕ → ℕ → List ℕ → List ℕ
units_text width place [] = []
units_text width place (b ∷ bytes) = unit_byte width place b ++ units_text width (place + 1) bytes

-- the byte itself if it is printable ASCII, or a point
abbrev pub shown_byte : ℕ → ℕ
shown_byte b = if nat_le 32 b && nat_le b 126 then b else 46

-- a line: the address, the units, the bytes as characters
unfoldable pub dump_line : ℕ → ℕ → List ℕ → List ℕ
dump_line width at bytes = hex_places 8 at ++ codes ":" ++ units_text width 0 bytes ++ codes "  *" ++ map shown_byte bytes ++ codes "*\n"

-- k lines of 16 bytes each; the last may be shorter
abbrev pub dump_lines : ℕ → ℕ → ℕ → List ℕ → List ℕ
dump_lines width zero at bytes = []
dump_lines width (suc k) at bytes = dump_line width at (take 16 bytes) ++ dump_lines width k (at + 16) (drop 16 bytes)

-- as many lines as the bytes need
abbrev pub lines_of : List ℕ → ℕ
lines_of bytes = (length bytes + 15) / 16

unfoldable pub dump_of : List ℕ → ℕ → ℕ → ℕ → List ℕ
dump_of ram at n width = let bytes = bytes_at ram at (n * width) in dump_lines width (lines_of bytes) at bytes
