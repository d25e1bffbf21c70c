-- The generated session: its console, its tick file, and the line that sums up its run. They are this project's own.
use Rattle.std.specs.Prelude.{ℕ, zero, suc, ◌+◌, ◌*◌, List, [], ◌∷◌, ◌++◌, codes}
use Rattle.std.specs.Fmt.{decimal}

-- the most rounds of a generated session
abbrev pub most_rounds : ℕ
most_rounds = 10000

-- the lines of round k: a sum, a task that takes the mutex, and a delay
abbrev pub round : ℕ → List ℕ
round k = codes "g = g + " ++ (decimal k ++ (codes " * " ++ (decimal k ++ (codes "\nsp semTake, m, " ++ (decimal k ++ codes " % 5 + 1\ntaskDelay 1\n")))))

-- the lines of rounds 1 to n
abbrev pub rounds : ℕ → List ℕ
rounds zero = []
rounds (suc n) = rounds n ++ round (suc n)

-- the console: a variable and a mutex, n rounds, and the variable's value
unfoldable pub generated_console : ℕ → List ℕ
generated_console n = (codes "g = 0\nm = semMCreate(13)\n" ++ rounds n) ++ codes "g\n"

-- how many lines the console has
abbrev pub generated_lines : ℕ → ℕ
generated_lines n = 3 * n + 3

-- the tick file: one line, of enough ticks for each delay
unfoldable pub generated_ticks : ℕ → List ℕ
generated_ticks n = codes "every 100 " ++ decimal (n + 8)

-- the texts of the line that sums up a run of n rounds: its lines, the bytes that it wrote, its steps and ticks,
-- and the number of its status
unfoldable pub summary_texts : ℕ → ℕ → ℕ → ℕ → ℕ → List (List ℕ)
summary_texts n bytes steps ticks status =
    codes "generated " ∷ decimal n ∷ codes ": " ∷ decimal (generated_lines n) ∷ codes " lines, "
    ∷ decimal bytes ∷ codes " console bytes, " ∷ decimal steps ∷ codes " steps, "
    ∷ decimal ticks ∷ codes " ticks, status " ∷ decimal status ∷ codes "\n" ∷ []
