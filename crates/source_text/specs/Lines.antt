-- The lines of a text.
use Rattle.std.specs.Prelude.{ℕ, ◌+◌, ◌==◌, if◌then◌else◌, List, [], ◌∷◌, drop}
use Rattle.wind_base.specs.Lines.{line_length}

-- byte b put before the first piece
abbrev pub onto_first : ℕ → List (List ℕ) → List (List ℕ)
onto_first b [] = (b ∷ []) ∷ []
onto_first b (piece ∷ pieces) = (b ∷ piece) ∷ pieces

-- a text in pieces: it is cut at each 0x0A, which belongs to no piece
abbrev pub pieces : List ℕ → List (List ℕ)
pieces [] = [] ∷ []
pieces (b ∷ bs) = if b == 10 then [] ∷ pieces bs else onto_first b (pieces bs)

-- what comes after the first line and its end
abbrev pub after_line : List ℕ → List ℕ
after_line text = drop (line_length text + 1) text
