-- The table of the outcomes of a sweep: how many members have each outcome, and which one has it first.
use Rattle.std.specs.Prelude.{◌≡◌, ℕ, zero, suc, ◌<◌, Bool, true, ◌==◌, ◌&&◌, ◌||◌, nat_lt, List, [], ◌∷◌, ◌++◌, count_by}
use Rattle.std.specs.List.{All, AllPairs, list_any, position_or_len}
use Rattle.std.specs.Str.{bytes_eq}
use Rattle.sweep_table.specs.declared.table.Row.{Row}
use Rattle.sweep_table.specs.declared.runs.Run.{Run}
use Rattle.sweep_table.specs.Runs.{outcome_at, count_at, first_at}

-- how many members have an outcome, and the place of the first that has it
abbrev pub count_of : List (List ℕ) → List ℕ → ℕ
count_of outcomes outcome = count_by (λ x. bytes_eq x outcome) outcomes

abbrev pub first_of : List (List ℕ) → List ℕ → ℕ
first_of outcomes outcome = position_or_len (λ x. bytes_eq x outcome) outcomes

-- a row has the count and the first member of an outcome that occurs
pub record IsRow (outcomes : List (List ℕ)) (row : Row) : Type 0 where
  pub some : 0 < row.count
  pub count : row.count ≡ count_of outcomes row.outcome
  pub first : row.first ≡ first_of outcomes row.outcome

-- row a stands before row b: its outcome is more frequent, or as frequent and occurs first
abbrev pub stands_before : Row → Row → Bool
stands_before a b = nat_lt b.count a.count || a.count == b.count && nat_lt a.first b.first

-- the table of these outcomes, one for each member in order: it has one row for each outcome that occurs, most frequent first
pub record IsTable (outcomes : List (List ℕ)) (rows : List Row) : Type 0 where
  pub each : All (IsRow outcomes) rows
  pub whole : All (λ x. list_any (λ (row : Row). bytes_eq row.outcome x) rows ≡ true) outcomes
  pub order : AllPairs (λ a b. stands_before a b ≡ true) rows

-- the row of outcome number k, and the rows of the outcomes below number n
abbrev pub row_at : List (List ℕ) → List Run → ℕ → Row
row_at known runs k = record { outcome = outcome_at known k; count = count_at k runs; first = first_at k runs }

abbrev pub rows_below : ℕ → List (List ℕ) → List Run → List Row
rows_below zero known runs = []
rows_below (suc n) known runs = rows_below n known runs ++ row_at known runs n ∷ []
