-- How the outcomes of neighbours join.
use Rattle.std.specs.Prelude.{◌≡◌, ℕ, ◌+◌, nat_lt, if◌then◌else◌, List, ◌++◌, length}
use Rattle.sweep_table.specs.Table.{count_of, first_of}

-- what the table of neighbours has is made of what the tables of both have; neighbours can be joined in any grouping
pub record JoinLaw : Type 0 where
  pub counts : (xs ys : List (List ℕ)) (o : List ℕ) → count_of (xs ++ ys) o ≡ count_of xs o + count_of ys o
  pub firsts : (xs ys : List (List ℕ)) (o : List ℕ) → first_of (xs ++ ys) o ≡ (if nat_lt (first_of xs o) (length xs) then first_of xs o else length xs + first_of ys o)
  pub grouping : (xs ys zs : List (List ℕ)) → (xs ++ ys) ++ zs ≡ xs ++ (ys ++ zs)
