-- How the console file arrives in chunks.
use Rattle.std.specs.Prelude.{ℕ, min, ◌+◌, List, [], ◌∷◌, ◌++◌, Option, Some, None, Bool, true, false, ◌==◌, ◌||◌, nat_lt, if◌then◌else◌, take, drop, length}
use Rattle.std.specs.List.{position}
use Rattle.wind_base.specs.Limits.{longest_chunk}

-- a byte that ends a line: 0x0A or 0x0D
abbrev pub is_end : ℕ → Bool
is_end b = b == 10 || b == 13

-- the first end of a line among the bytes that may arrive at once
abbrev pub first_end : List ℕ → Option ℕ
first_end left = position is_end (take longest_chunk left)

-- how many bytes of the file a chunk takes: up to and including the first end of a line, else as many as may
-- arrive at once
abbrev pub taken_by : Option ℕ → ℕ
taken_by (Some k) = k + 1
taken_by None = longest_chunk

-- whether the last byte of the file is taken without an end of its line
abbrev pub is_unended : Option ℕ → List ℕ → Bool
is_unended (Some k) left = false
is_unended None left = if nat_lt longest_chunk (length left) then false else true

-- the newline that is supplied then
abbrev pub supplied : Bool → List ℕ
supplied true = 10 ∷ []
supplied false = []

-- the next chunk of these bytes, and the bytes left after it
abbrev pub chunk : List ℕ → List ℕ
chunk left = take (taken_by (first_end left)) left ++ supplied (is_unended (first_end left) left)

abbrev pub after_chunk : List ℕ → List ℕ
after_chunk left = drop (taken_by (first_end left)) left

-- how many bytes an event of the tick file brings: n, but at most a chunk
abbrev pub brought : ℕ → ℕ
brought n = min n longest_chunk
