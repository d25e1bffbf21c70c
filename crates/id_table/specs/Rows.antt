-- What a contract sees of a table: its objects by rising id, and the greatest number of them.
use Rattle.std.specs.Prelude.{ℕ, ◌<◌, ◌≤◌, nat_le, nat_lt, if◌then◌else◌, List, [], ◌∷◌, ◌++◌, map, length, Option, None, Some, refl}
use Rattle.std.specs.List.{All, AllPairs, find}
use Rattle.std.specs.Option.{option_map}
use Rattle.std.specs.Coded.{Coded, code_by, coded×, coded_ℕ, coded_list}
use Rattle.wind_base.specs.Limits.{greatest_id}
use Rattle.wind_base.specs.declared.errno.Errno.{Errno}
use Rattle.wind_base.specs.declared.errno.Errno.TheVariants as errors
use Rattle.id_table.specs.Records as records

-- the ids with their objects, and the room
pub record Rows (T : Type 0) : Type 0 where
  pub rows : List (ℕ × T)
  pub room : ℕ

-- a number is a valid id
abbrev pub IsId : ℕ → Type 0
IsId n = (0 < n) × (n ≤ greatest_id)

-- why no object can be added, if a table may have `most` objects, this many are live and this id is next: the table is
-- full, otherwise no id is left
abbrev pub add_refusal : ℕ → ℕ → ℕ → Option Errno
add_refusal most live next =
    if nat_le most live then Some errors.TooMany
    else if nat_lt greatest_id next then Some errors.IdsSpent
    else None

-- a table, coded as a pair
abbrev pub rows_code : {T : Type 0} → Coded T → Coded (Rows T)
rows_code {T} code =
    code_by
    (List (ℕ × T) × ℕ)
    (coded× (coded_list (coded× coded_ℕ code)) coded_ℕ)
    (λ t. (t.rows, t.room))
    (λ p. record { rows = p.0; room = p.1 })
    (λ _. refl)

module _ {T : Type 0} where
  -- the id of a row, and its object
  abbrev pub row_id : ℕ × T → ℕ
  row_id r = r.0

  -- the object of a row
  abbrev pub row_object : ℕ × T → T
  row_object r = r.1

  -- the object with this id
  abbrev pub object_of : List (ℕ × T) → ℕ → Option T
  object_of rs id = option_map row_object (records.of_id row_id rs id)

  -- the same objects, but with another value for this id
  abbrev pub with_object : List (ℕ × T) → ℕ → T → List (ℕ × T)
  with_object rs id value = records.change row_id rs id (λ r. (r.0, value))

  -- the objects without the one with this id
  abbrev pub without : List (ℕ × T) → ℕ → List (ℕ × T)
  without rs id = records.without row_id rs id

  -- the live ids, by rising id
  abbrev pub ids : List (ℕ × T) → List ℕ
  ids rs = map row_id rs

  -- the first of the live ids above this number; it is the least, since they rise
  abbrev pub next_above : List (ℕ × T) → ℕ → Option ℕ
  next_above rs n = find (λ id. nat_lt n id) (ids rs)

  -- the live ids rise along the list
  abbrev pub Rises : List (ℕ × T) → Type 0
  Rises rs = AllPairs (λ i j. i < j) (ids rs)

  -- each id is below the next one to be given
  abbrev pub IdsBelow : ℕ → List (ℕ × T) → Type 0
  IdsBelow next rs = All (λ r. r.0 < next) rs

  -- the table after an object is added
  abbrev pub added : Rows T → ℕ → T → Rows T
  added t id value = record t { rows = t.rows ++ (id, value) ∷ [] }

  -- the table after an object is overwritten
  abbrev pub rewritten : Rows T → ℕ → T → Rows T
  rewritten t id value = record t { rows = with_object t.rows id value }

  -- the table after an object is removed
  abbrev pub removed : Rows T → ℕ → Rows T
  removed t id = record t { rows = without t.rows id }

  -- the objects by rising id
  abbrev pub objects : List (ℕ × T) → List T
  objects rs = map row_object rs

  -- the table's invariant: it has at most as many objects as room, and its ids are valid and rise
  pub record IsTable (t : Rows T) : Type 0 where
    pub few : length t.rows ≤ t.room
    pub rising : records.Rising row_id t.rows
    pub ranged : All (λ r. IsId r.0) t.rows
