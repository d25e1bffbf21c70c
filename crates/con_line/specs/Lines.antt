-- The finished lines, and their invariant.
use Rattle.std.specs.Prelude.{◌≡◌, ◌≢◌, ℕ, ◌+◌, ◌≤◌, List, [], ◌∷◌, ◌++◌, Bool, true, ◌==◌, ◌&&◌, not, nat_le, if◌then◌else◌, All, take, drop, length}
use Rattle.wind_base.specs.Limits.{longest_line, most_kept_bytes}
use Rattle.wind_base.specs.Lines.{line_length}
use Rattle.con_line.specs.State.{ConsoleState}

-- a line with its end
abbrev pub with_end : List ℕ → List ℕ
with_end line = line ++ 10 ∷ []

-- whether a line is added with its end after these finished ones: together they fit in the room
abbrev pub is_kept : List ℕ → List ℕ → Bool
is_kept finished line = nat_le (length finished + length (with_end line)) most_kept_bytes

-- the finished lines with that one, if it is added
abbrev pub with_kept : List ℕ → List ℕ → List ℕ
with_kept finished line = if is_kept finished line then finished ++ with_end line else finished

-- whether there is a finished line
abbrev pub has_line : ConsoleState → Bool
has_line c = not (length c.finished == 0)

-- the first finished line without its end, and the console without that line and its end
abbrev pub first_line : ConsoleState → List ℕ
first_line c = take (line_length c.finished) c.finished

abbrev pub line_dropped : ConsoleState → ConsoleState
line_dropped c = record c { finished = drop (line_length c.finished + 1) c.finished }

-- bytes at the beginning of a room, whose rest stays
abbrev pub laid_in : List ℕ → List ℕ → List ℕ
laid_in bytes room = bytes ++ drop (length bytes) room

-- whether each line of these bytes has an end and at most 255 bytes before it; n bytes of the first line came before
abbrev pub are_lines : ℕ → List ℕ → Bool
are_lines n [] = n == 0
are_lines n (b ∷ bs) = if b == 10 then nat_le n longest_line && are_lines 0 bs else are_lines (n + 1) bs

-- the invariant of a console's lines
pub record KeepsLines (edited finished : List ℕ) : Type 0 where
  -- the edited line has at most 255 bytes, and no end
  pub short : length edited ≤ longest_line
  pub unended : All (λ b. b ≢ 10) edited
  -- each finished line has an end and at most 255 bytes, and together they have at most 4096
  pub lines : are_lines 0 finished ≡ true
  pub within : length finished ≤ most_kept_bytes
