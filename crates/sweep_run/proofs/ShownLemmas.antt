-- The lines of an outcome, shown one after another.
use Rattle.std.proofs.Common.{◌≡◌, ℕ, ◌+◌, ◌<◌, ◌≤◌, List, ◌∷◌, ◌++◌, length, take, drop, sym, ap, ◌∙◌}
use Rattle.std.specs.Prelude.{codes}
use Rattle.std.proofs.lemmas.List.{append_assoc}
use Rattle.wind_base.specs.Lines.{line_length}
use Rattle.source_text.specs.Lines.{pieces}
use Rattle.source_text.proofs.Cutting.{cut_at, first_piece, last_at}
use Rattle.trace_text.specs.Pieces.{escaped}
use Rattle.sweep_run.specs.Shown.{lines_shown, shown}

more_shown : (line rest : List ℕ) → lines_shown (line ∷ pieces rest) ≡ escaped line ++ (codes " | " ++ lines_shown (pieces rest))
more_shown line rest =
    let k = first_piece rest in
    ap (λ (ps : List (List ℕ)). lines_shown (line ∷ ps)) k.2 ∙ ap (λ (ps : List (List ℕ)). escaped line ++ (codes " | " ++ lines_shown ps)) (sym k.2)

-- a line that isn't the last
pub shown_step : (n : ℕ) (rest line after text one two : List ℕ) → n ≡ line_length rest → n < length rest → line ≡ take n rest → after ≡ drop (n + 1) rest
    → one ≡ text ++ escaped line → two ≡ one ++ codes " | " → two ++ shown after ≡ text ++ shown rest
shown_step n rest line after text one two first inside line_is after_is e f =
    ap (λ (v : List ℕ). v ++ shown after) (f ∙ ap (λ (v : List ℕ). v ++ codes " | ") e)
    ∙ append_assoc (text ++ escaped line) (codes " | ") (shown after)
    ∙ append_assoc text (escaped line) (codes " | " ++ shown after)
    ∙ ap (λ (v : List ℕ). text ++ (escaped v ++ (codes " | " ++ shown after))) line_is
    ∙ ap (λ (v : List ℕ). text ++ (escaped (take n rest) ++ (codes " | " ++ shown v))) after_is
    ∙ ap (λ (v : List ℕ). text ++ v) (sym (ap lines_shown (cut_at n rest first inside) ∙ more_shown (take n rest) (drop (n + 1) rest)))

-- the last line
pub shown_last : (n : ℕ) (rest : List ℕ) → n ≡ line_length rest → length rest ≤ n → shown rest ≡ escaped rest
shown_last n rest first whole = ap lines_shown (last_at n rest first whole)
