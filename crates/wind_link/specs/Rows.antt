-- The steps of reading a list.
use Rattle.std.specs.Prelude.{◌≡◌, ℕ, if◌then◌else◌, List, take, Option, Some, None, Result, Err}
use Rattle.wind_base.specs.Lines.{line_length}
use Rattle.wind_link.specs.declared.list.Row.{Row as CodeRow}
use Rattle.wind_link.specs.declared.list.ListErr.{ListErr}
use Rattle.wind_link.specs.declared.list.ListErr.TheVariants as errors
use Rattle.wind_link.specs.Lists.{Row, is_name}

-- the program's row as plain data
abbrev pub row : CodeRow → Row
row r = record { name = r.name.now; mode = r.mode; at = r.at }

-- a word, if it is a name
abbrev pub name_of : List ℕ → Option (List ℕ)
name_of word = if is_name word then Some word else None

-- the first line of a text
abbrev pub first_line : List ℕ → List ℕ
first_line text = take (line_length text) text

-- an error is this bad line, or says that memory ran out
abbrev pub TellsLine : Result (List Row) ℕ → ListErr → Type 0
TellsLine rows (errors.BadLine n) = rows ≡ Err n
TellsLine rows errors.NoMemory = Unit {0}
