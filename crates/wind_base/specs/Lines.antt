-- Lines of bytes.
use Rattle.std.specs.Prelude.{ℕ, List, Bool, ◌==◌}
use Rattle.std.specs.List.{position_or_len}

-- a byte that ends a line
abbrev pub is_newline : ℕ → Bool
is_newline b = b == 10

-- the number of bytes before the first end of a line, or of all bytes if there is none
abbrev pub line_length : List ℕ → ℕ
line_length bytes = position_or_len is_newline bytes
