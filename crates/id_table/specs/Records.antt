-- Records in a list, by the id of each.
use Rattle.std.specs.Prelude.{◌≡◌, ℕ, ◌<◌, nat_lt, not, ◌==◌, if◌then◌else◌, List, map, length, slice_index_or, Option}
use Rattle.std.specs.List.{AllPairs, filter, find}
use Rattle.id_table.specs.Sorting.{insert_sorted}

module _ {X : Type 0} (id : X → ℕ) where
  -- the first record with this id
  abbrev pub of_id : List X → ℕ → Option X
  of_id xs n = find (λ x. id x == n) xs

  -- the list, with f applied to the records with this id
  abbrev pub change : List X → ℕ → (X → X) → List X
  change xs n f = map (λ x. if id x == n then f x else x) xs

  -- the list, with y in place of the records with this id
  abbrev pub replace : List X → ℕ → X → List X
  replace xs n y = change xs n (λ _. y)

  -- the list without the records with this id
  abbrev pub without : List X → ℕ → List X
  without xs n = filter (λ x. not (id x == n)) xs

  -- the list with one more record, in its place by rising id
  abbrev pub with_record : List X → X → List X
  with_record xs x = insert_sorted (λ y z. nat_lt (id y) (id z)) x xs

  -- the record with this id is at this place
  pub record StandsAt (xs : List X) (n place : ℕ) : Type 0 where
    pub within : place < length xs
    pub same : (d : X) → id (slice_index_or xs place d) ≡ n

  -- the ids rise along the list
  abbrev pub Rising : List X → Type 0
  Rising xs = AllPairs (λ x y. id x < id y) xs
