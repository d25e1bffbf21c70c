-- Texts in columns; the columns of the shell's tables are this project's own.
use Rattle.std.specs.Prelude.{ℕ, ◌-◌, List, [], ◌∷◌, ◌++◌, length, replicate}
use Rattle.wind_base.specs.OutBuf.{Output}
use Rattle.text_show.specs.declared.page.Cell.{Cell}
use Rattle.text_show.specs.declared.page.Cell.TheVariants.{Left, Right}

abbrev pub blanks : ℕ → List ℕ
blanks n = replicate n 32

abbrev pub zeros : ℕ → List ℕ
zeros n = replicate n 48

-- a text left-justified in this width, or right-justified; a longer text isn't cut
abbrev pub left_in : ℕ → List ℕ → List ℕ
left_in width text = text ++ blanks (width - length text)

abbrev pub right_in : ℕ → List ℕ → List ℕ
right_in width text = blanks (width - length text) ++ text

-- the text of a cell
abbrev pub cell_text : Cell → List ℕ
cell_text (Left width text) = left_in width text.now
cell_text (Right width text) = right_in width text.now

-- what follows the first cell of a row: a blank before each other cell, and the end of the line
abbrev pub row_rest : List (List ℕ) → List ℕ
row_rest [] = 10 ∷ []
row_rest (c ∷ cells) = 32 ∷ c ++ row_rest cells

-- a row: its cells, with one blank between each two, and the end of the line
abbrev pub row : List (List ℕ) → List ℕ
row [] = 10 ∷ []
row (c ∷ cells) = c ++ row_rest cells

-- the buffer with a text added, for which room was made
abbrev pub with_text : Output → List ℕ → Output
with_text out text = record out { bytes = out.bytes ++ text }
