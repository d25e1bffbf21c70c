-- What follows from the console's definitions alone.
use Rattle.std.specs.Prelude.{◌≡◌, ◌≢◌, ℕ, ◌≤◌, List, [], ◌∷◌, ◌++◌, true, All, length}
use Rattle.wind_base.specs.Limits.{longest_line}
use Rattle.con_line.specs.State.{ConsoleState, opening_console}
use Rattle.con_line.specs.Keys.{after_byte}
use Rattle.con_line.specs.Lines.{KeepsLines, with_end, are_lines, first_line, line_dropped}

-- the invariant of the lines holds before the first byte, and a byte and the dropping of a line keep it
abbrev pub Keeps : ConsoleState → Type 0
Keeps c = KeepsLines c.edited c.finished

abbrev pub StartLaw : Type 0
StartLaw = Keeps opening_console

abbrev pub ByteLaw : Type 0
ByteLaw = (c : ConsoleState) (b : ℕ) → Keeps c → Keeps (after_byte c b)

abbrev pub DropLaw : Type 0
DropLaw = (c : ConsoleState) → Keeps c → Keeps (line_dropped c)

-- a line without its end: at most 255 bytes, and none is 0x0A
pub record IsLine (line : List ℕ) : Type 0 where
  pub short : length line ≤ longest_line
  pub unended : All (λ b. b ≢ 10) line

-- lines, each with its end
abbrev pub joined : List (List ℕ) → List ℕ
joined [] = []
joined (line ∷ lines) = with_end line ++ joined lines

-- bytes are finished lines exactly if they are lines, each with its end
abbrev pub MadeLaw : Type 0
MadeLaw = (lines : List (List ℕ)) → All IsLine lines → are_lines 0 (joined lines) ≡ true

abbrev pub SplitLaw : Type 0
SplitLaw = (bytes : List ℕ) → are_lines 0 bytes ≡ true → (lines : List (List ℕ)) × All IsLine lines × (joined lines ≡ bytes)

-- the first of such lines is the one that is read, and dropping it leaves the others
abbrev pub FirstLineLaw : Type 0
FirstLineLaw = (c : ConsoleState) (line : List ℕ) (lines : List (List ℕ)) → IsLine line
    → c.finished ≡ joined (line ∷ lines) → (first_line c ≡ line) × ((line_dropped c).finished ≡ joined lines)
