-- The lines of a console that an outcome shows.
use Rattle.std.specs.Prelude.{ℕ, Bool, ◌==◌, ◌&&◌, nat_eq, if◌then◌else◌, List, [], ◌∷◌}
use Rattle.std.specs.List.{flat_map, list_any, starts_with}
use Rattle.source_text.specs.Lines.{pieces}

-- a line without the shell's prompts, `-> `, at its front
abbrev pub without_prompts : List ℕ → List ℕ
without_prompts (a ∷ b ∷ c ∷ line) = if a == 45 && b == 62 && c == 32 then without_prompts line else a ∷ b ∷ c ∷ line
without_prompts line = line

-- the line begins with one of these texts, after the prompts at its front
abbrev pub is_marked : List (List ℕ) → List ℕ → Bool
is_marked marks line = list_any (λ mark. starts_with nat_eq (without_prompts line) mark) marks

-- pieces, without the last one if it is empty
abbrev pub unless_empty : List ℕ → List (List ℕ)
unless_empty [] = []
unless_empty (b ∷ bs) = (b ∷ bs) ∷ []

abbrev pub without_last_empty : List (List ℕ) → List (List ℕ)
without_last_empty [] = []
without_last_empty (last ∷ []) = unless_empty last
without_last_empty (line ∷ next ∷ more) = line ∷ without_last_empty (next ∷ more)

-- the lines of a text; none comes after the last line's end
abbrev pub lines : List ℕ → List (List ℕ)
lines text = without_last_empty (pieces text)

-- a line that is marked, without its prompts, after the end of a line
abbrev pub line_marked : List (List ℕ) → List ℕ → List ℕ
line_marked marks line = if is_marked marks line then 10 ∷ without_prompts line else []

-- the marked lines of a text
abbrev pub marked_text : List (List ℕ) → List ℕ → List ℕ
marked_text marks text = flat_map (line_marked marks) (lines text)
