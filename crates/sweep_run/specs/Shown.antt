-- How an outcome is shown in one line.
use Rattle.std.specs.Prelude.{ℕ, List, [], ◌∷◌, ◌++◌, codes}
use Rattle.source_text.specs.Lines.{pieces}
use Rattle.trace_text.specs.Pieces.{escaped}

-- these lines, with ` | ` between each two
abbrev pub lines_shown : List (List ℕ) → List ℕ
lines_shown [] = []
lines_shown (last ∷ []) = escaped last
lines_shown (line ∷ next ∷ more) = escaped line ++ (codes " | " ++ lines_shown (next ∷ more))

-- the lines of an outcome
abbrev pub shown : List ℕ → List ℕ
shown outcome = lines_shown (pieces outcome)
