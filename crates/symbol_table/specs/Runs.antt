-- Runs of entries of one group.
use Rattle.std.specs.Prelude.{◌≡◌, ℕ, ◌<◌, ◌≤◌, List, length, slice_index, slice_index_or}
use Rattle.symbol_table.specs.declared.symbol.Symbol.{Symbol}

-- all entries from one position to another have the same group
pub record IsRun (list : List Symbol) (from to : ℕ) : Type 0 where
  pub order : from ≤ to
  pub same : (i : ℕ) (d : Symbol) → from ≤ i → i ≤ to → (slice_index_or list i d).group ≡ (slice_index_or list to d).group

-- of the first entries, each has a position from which on a run leads to it
pub record AreRuns (list : List Symbol) (runs : List ℕ) : Type 0 where
  pub within : length runs ≤ length list
  pub each : (i : ℕ) → i < length runs → IsRun list (slice_index runs i) i

-- no entry from one position up to another has the group
abbrev pub HasNone : ℕ → List Symbol → ℕ → ℕ → Type 0
HasNone group list from to = (i : ℕ) (d : Symbol) → from ≤ i → i < to → (slice_index_or list i d).group ≡ group → ⊥
