-- The lines of a list, one after the other.
use Rattle.std.proofs.Common.{◌≡◌, ◌≢◌, ℕ, suc, ◌+◌, ◌<◌, ◌≤◌, true, false, cond, List, [], ◌∷◌, ◌++◌, None, Some, Err, length, take, drop, sym, ap, ◌∙◌, arith}
use Rattle.std.specs.Prelude.{◌==◌}
use Rattle.std.proofs.lemmas.Bool.{cases_eq, le-leb, lt-leb}
use Rattle.std.proofs.lemmas.Bool.Decides.{nat_tests}
use mathlib.Core.Logic.{⊎_elim}
use Rattle.wind_base.specs.Lines.{line_length}
use Rattle.wind_base.proofs.LineLength.{length_end, length_more}
use Rattle.source_text.specs.Lines.{onto_first, after_line}
use Rattle.wind_link.specs.Lists.{Row, lines_of, row_of, most_lines, or_bad, rows_after}
use Rattle.wind_link.specs.Rows.{first_line}

lines_end : (b : ℕ) (bs : List ℕ) → b ≡ 10 → lines_of (b ∷ bs) ≡ [] ∷ lines_of bs
lines_end b bs e = let t : (b == 10) ≡ true = grind (arith, nat_tests) in ap (λ x. cond x ([] ∷ lines_of bs) (onto_first b (lines_of bs))) t

lines_on : (b : ℕ) (bs : List ℕ) → b ≢ 10 → lines_of (b ∷ bs) ≡ onto_first b (lines_of bs)
lines_on b bs e = let t : (b == 10) ≡ false = grind (arith, nat_tests) in ap (λ x. cond x ([] ∷ lines_of bs) (onto_first b (lines_of bs))) t

-- the first line of a text, and those after it
pub first_of : (b : ℕ) (bs : List ℕ) → lines_of (b ∷ bs) ≡ first_line (b ∷ bs) ∷ lines_of (after_line (b ∷ bs))
first_of b [] =
    ⊎_elim
    (λ e. lines_end b [] e ∙ ap (λ n. take n (b ∷ []) ∷ lines_of (drop (n + 1) (b ∷ []))) (sym (length_end b [] e)))
    (λ e. lines_on b [] e ∙ ap (λ n. take n (b ∷ []) ∷ lines_of (drop (n + 1) (b ∷ []))) (sym (length_more b [] e)))
    (cases_eq b 10)
first_of b (c ∷ cs) =
    let bs = c ∷ cs in
    ⊎_elim
    (λ e. lines_end b bs e ∙ ap (λ n. take n (b ∷ bs) ∷ lines_of (drop (n + 1) (b ∷ bs))) (sym (length_end b bs e)))
    (λ e.
    (let step : suc (line_length bs + 1) ≡ suc (line_length bs) + 1 = omega arith in
    lines_on b bs e
    ∙ ap (onto_first b) (first_of c cs)
    ∙ ap (λ n. (b ∷ first_line bs) ∷ lines_of (drop n (b ∷ bs))) step
    ∙ ap (λ n. take n (b ∷ bs) ∷ lines_of (drop (n + 1) (b ∷ bs))) (sym (length_more b bs e))))
    (cases_eq b 10)

-- the same for any text that isn't empty
pub line_of : (bs : List ℕ) → 0 < length bs → lines_of bs ≡ first_line bs ∷ lines_of (after_line bs)
line_of [] h = absurd (omega arith)
line_of (b ∷ bs) h = first_of b bs

-- line 257 is bad
pub too_many : (rows : List Row) (bs : List ℕ) → 0 < length bs → most_lines ≤ length rows → rows_after rows (lines_of bs) ≡ Err (length rows + 1)
too_many rows bs some h =
    ap (rows_after rows) (line_of bs some)
    ∙ ap (λ t. cond t (Err (length rows + 1)) (or_bad (length rows + 1) (row_of (first_line bs)) (λ row. rows_after (rows ++ row ∷ []) (lines_of (after_line bs))))) (le-leb most_lines (length rows) h)

next_row : (rows : List Row) (bs : List ℕ) → 0 < length bs → length rows < most_lines
    → rows_after rows (lines_of bs) ≡ or_bad (length rows + 1) (row_of (first_line bs)) (λ row. rows_after (rows ++ row ∷ []) (lines_of (after_line bs)))
next_row rows bs some h =
    ap (rows_after rows) (line_of bs some)
    ∙ ap (λ t. cond t (Err (length rows + 1)) (or_bad (length rows + 1) (row_of (first_line bs)) (λ row. rows_after (rows ++ row ∷ []) (lines_of (after_line bs))))) (lt-leb most_lines (length rows) h)

-- a line outside the form is bad
pub bad_row : (rows : List Row) (bs : List ℕ) → 0 < length bs → length rows < most_lines → row_of (first_line bs) ≡ None → rows_after rows (lines_of bs) ≡ Err (length rows + 1)
bad_row rows bs some h n =
    next_row rows bs some h ∙ ap (λ o. or_bad (length rows + 1) o (λ row. rows_after (rows ++ row ∷ []) (lines_of (after_line bs)))) n

-- the row of any other line is added
pub good_row : (rows : List Row) (bs : List ℕ) (r : Row) → 0 < length bs → length rows < most_lines → row_of (first_line bs) ≡ Some r
    → rows_after rows (lines_of bs) ≡ rows_after (rows ++ r ∷ []) (lines_of (after_line bs))
good_row rows bs r some h n =
    next_row rows bs some h ∙ ap (λ o. or_bad (length rows + 1) o (λ row. rows_after (rows ++ row ∷ []) (lines_of (after_line bs)))) n
