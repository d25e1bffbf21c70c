-- The lines of a text, taken from its start one after another.
use Rattle.std.proofs.Common.{◌≡◌, ℕ, ◌+◌, ◌<◌, List, [], ◌∷◌, ◌++◌, length, take, refl, sym, ap, ◌∙◌, arith}
use Rattle.std.specs.List.{flat_map}
use Rattle.std.proofs.lemmas.Bool.{cases_lt}
use Rattle.std.proofs.lemmas.List.{append_assoc, drop_all, take_all}
use mathlib.Core.Logic.{⊎_elim}
use Rattle.wind_base.specs.Lines.{line_length}
use Rattle.source_text.specs.Lines.{after_line, pieces}
use Rattle.source_text.proofs.Cutting.{first_piece, more_pieces, one_piece}
use Rattle.sweep_run.specs.Marks.{line_marked, lines, marked_text, unless_empty, without_last_empty}

more_lines : (line : List ℕ) (rest : List ℕ) → without_last_empty (line ∷ pieces rest) ≡ line ∷ without_last_empty (pieces rest)
more_lines line rest =
    let k = first_piece rest in
    ap (λ (ps : List (List ℕ)). without_last_empty (line ∷ ps)) k.2 ∙ ap (λ (ps : List (List ℕ)). line ∷ without_last_empty ps) (sym k.2)

last_is : (line : List ℕ) → 0 < length line → unless_empty line ≡ line ∷ []
last_is [] some = absurd (omega arith)
last_is (b ∷ bs) some = refl

lines_step : (text : List ℕ) → 0 < length text → lines text ≡ take (line_length text) text ∷ lines (after_line text)
lines_step text some =
    ⊎_elim
    (λ h. ap without_last_empty (more_pieces text h) ∙ more_lines (take (line_length text) text) (after_line text))
    (λ h.
    ap without_last_empty (one_piece text h)
    ∙ last_is text some
    ∙ ap (λ (line : List ℕ). line ∷ []) (sym (take_all (line_length text) text h))
    ∙ ap (λ (rest : List ℕ). take (line_length text) text ∷ lines rest) (sym (drop_all (line_length text + 1) text (omega (arith, h)))))
    (cases_lt (line_length text) (length text))

-- the marked lines of a text are its first line, if that is marked, and those after it
pub marked_step : (marks : List (List ℕ)) (text line rest whole more : List ℕ) → 0 < length text → line ≡ take (line_length text) text → rest ≡ after_line text
    → more ≡ whole ++ line_marked marks line → more ++ marked_text marks rest ≡ whole ++ marked_text marks text
marked_step marks text line rest whole more some is after e =
    ap (λ (v : List ℕ). v ++ marked_text marks rest) e
    ∙ append_assoc whole (line_marked marks line) (marked_text marks rest)
    ∙ ap (λ (v : List ℕ). whole ++ (line_marked marks v ++ marked_text marks rest)) is
    ∙ ap (λ (v : List ℕ). whole ++ (line_marked marks (take (line_length text) text) ++ marked_text marks v)) after
    ∙ ap (λ (ls : List (List ℕ)). whole ++ flat_map (line_marked marks) ls) (sym (lines_step text some))
