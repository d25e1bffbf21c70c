-- The lines of a tick file.
use Rattle.std.specs.Prelude.{ℕ, ◌+◌, ◌-◌, ◌==◌, ◌≡◌, nat_lt, if◌then◌else◌, List, [], ◌∷◌, ◌++◌, length, take, slice_index, Option, None, Some}
use Rattle.wind_base.specs.Lines.{line_length}
use Rattle.source_text.specs.Lines.{pieces}
use Rattle.tick_file.specs.declared.event.Rule.{Rule}
use Rattle.tick_file.specs.declared.event.Said.{Said}
use Rattle.tick_file.specs.declared.event.Said.TheVariants.{Nothing, Says, Outside}
use Rattle.tick_file.specs.declared.reading.TickErr.{TickErr}
use Rattle.tick_file.specs.declared.reading.TickErr.TheVariants.{BadLine, NoMemory}
use Rattle.tick_file.specs.Grammar.{said}

-- a piece without an 0x0D at its end
abbrev pub without_return : List ℕ → List ℕ
without_return piece = if slice_index piece (length piece - 1) == 13 then take (length piece - 1) piece else piece

-- the lines of these pieces: an 0x0D before an 0x0A belongs to the end of the line
abbrev pub lines_of : List (List ℕ) → List (List ℕ)
lines_of [] = []
lines_of (last ∷ []) = last ∷ []
lines_of (piece ∷ next ∷ more) = without_return piece ∷ lines_of (next ∷ more)

-- the lines of a text
unfoldable pub tick_lines : List ℕ → List (List ℕ)
tick_lines text = lines_of (pieces text)

-- the first line of a text
abbrev pub first_line : List ℕ → List ℕ
first_line text = if nat_lt (line_length text) (length text) then without_return (take (line_length text) text) else text

-- a rule, with the number of its line
pub record Numbered : Type 0 where
  pub line : ℕ
  pub rule : Rule

-- the rule that line n has, if it has one
abbrev pub rule_at : ℕ → Said → List Numbered
rule_at n (Says rule) = record { line = n; rule = rule } ∷ []
rule_at n Nothing = []
rule_at n Outside = []

-- the rules of lines, the first of which has number n
abbrev pub rules_from : ℕ → List (List ℕ) → List Numbered
rules_from n [] = []
rules_from n (line ∷ lines) = rule_at n (said line) ++ rules_from (n + 1) lines

-- line n, if it is invalid, otherwise the first invalid one after it
abbrev pub bad_or : ℕ → Option ℕ → Said → Option ℕ
bad_or n after Outside = Some n
bad_or n after Nothing = after
bad_or n after (Says rule) = after

-- the first invalid line, if the first line of all has number n
abbrev pub bad_from : ℕ → List (List ℕ) → Option ℕ
bad_from n [] = None
bad_from n (line ∷ lines) = bad_or n (bad_from (n + 1) lines) (said line)

-- the rules of a text
unfoldable pub rules_of : List ℕ → List Numbered
rules_of text = rules_from 1 (tick_lines text)

-- the first invalid line of a text, counted from 1
unfoldable pub first_bad_line : List ℕ → Option ℕ
first_bad_line text = bad_from 1 (tick_lines text)

-- what an error says of the first bad line: its number, or nothing if memory ran out
abbrev pub Tells : Option ℕ → TickErr → Type 0
Tells bad (BadLine n) = bad ≡ Some n
Tells bad NoMemory = Unit {0}
