-- What is inside a table: a list of entries, each an id and the key of its object in the slab.
use Rattle.std.specs.Prelude.{◌≡◌, ℕ, ◌<◌, ◌≤◌, List, length, Option, IsSome}
use Rattle.std.specs.List.{AllPairs, All, filter_map}
use Rattle.std.specs.Option.{option_map}
use Rattle.slab.specs.Slab.{Slab, get, slab_len}
use Rattle.id_table.specs.declared.entry.Entry.{Entry}
use Rattle.id_table.specs.Rows.{IsId}

module _ {T : Type 0} where
  -- an entry's id, with the object of its key
  abbrev pub row_at : Slab T → Entry → Option (ℕ × T)
  row_at slots e = option_map (λ v. (e.id, v)) (get slots e.key)

  -- the entries' ids with their objects, in the order of the entries
  abbrev pub rows_in : List Entry → Slab T → List (ℕ × T)
  rows_in order slots = filter_map (row_at slots) order

  -- the invariant: each entry has an object of its own, and there are no others; the ids are valid and rise;
  -- there are at most `room` entries, and the slab has that capacity
  pub record IsKept (order : List Entry) (slots : Slab T) (room : ℕ) : Type 0 where
    pub present : All (λ e. IsSome (get slots e.key)) order
    pub apart : AllPairs (λ d e. d.key ≡ e.key → ⊥) order
    pub rising : AllPairs (λ d e. d.id < e.id) order
    pub ranged : All (λ e. IsId e.id) order
    pub all : slab_len slots ≡ length order
    pub fits : length order ≤ room
    pub space : room ≤ slots.capacity
