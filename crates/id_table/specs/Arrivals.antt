-- Elements that come and go, each with a rank: in order of rank, and those of one rank in order of arrival.
use Rattle.std.specs.Prelude.{◌≡◌, ℕ, ◌<◌, ◌≤◌, nat_lt, nat_le, Bool, List, [], ◌∷◌, ◌++◌}
use Rattle.std.specs.List.{All}
use Rattle.id_table.specs.Records.{without}
use Rattle.id_table.specs.Sorting.{insert_sorted, sorted}

-- an element comes, or the element with an id goes
pub data Change (X : Type 0) : Type 0 where
  comes : X → Change X
  goes : ℕ → Change X

module _ {X : Type 0} (id rank : X → ℕ) where
  -- an element stays ahead of a later one, unless its rank is greater
  abbrev pub stays_ahead : X → X → Bool
  stays_ahead x later = nat_le (rank x) (rank later)

  -- a list in order of rank with one more element, after all of its rank
  abbrev pub put_after : List X → X → List X
  put_after xs x = insert_sorted stays_ahead x xs

  -- x has a lesser rank than y
  abbrev pub ranks_below : X → X → Bool
  ranks_below x y = nat_lt (rank x) (rank y)

  -- the elements after changes; the list of changes begins with the last one
  abbrev pub after_changes : List (Change X) → List X
  after_changes [] = []
  after_changes (comes x ∷ earlier) = put_after (after_changes earlier) x
  after_changes (goes n ∷ earlier) = without id (after_changes earlier) n

  -- the same elements in order of arrival, whatever their ranks
  abbrev pub arrivals : List (Change X) → List X
  arrivals [] = []
  arrivals (comes x ∷ earlier) = arrivals earlier ++ x ∷ []
  arrivals (goes n ∷ earlier) = without id (arrivals earlier) n

  -- the elements are always those that came and didn't go, by rank, and those of one rank in order of arrival
  abbrev pub ArrivalLaw : Type 0
  ArrivalLaw = (changes : List (Change X)) → after_changes changes ≡ sorted ranks_below (arrivals changes)

  -- among those in order of arrival, all before x have a greater rank, and none after it has a lesser one
  pub record IsEarliest (xs : List X) (x : X) : Type 0 where
    pub earlier : List X
    pub later : List X
    pub among : xs ≡ earlier ++ x ∷ later
    pub above : All (λ y. rank x < rank y) earlier
    pub least : All (λ y. rank x ≤ rank y) later
