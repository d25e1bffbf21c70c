-- A walk along a list by id.
use Rattle.std.specs.Prelude.{ℕ, ◌<◌, ◌≤◌, List, length, slice_index_or}

-- the ids before this place are below this bound
pub record HasPassed {X : Type 0} (id : X → ℕ) (xs : List X) (place bound : ℕ) : Type 0 where
  pub within : place ≤ length xs
  pub below : (k : ℕ) (d : X) → k < place → id (slice_index_or xs k d) < bound
