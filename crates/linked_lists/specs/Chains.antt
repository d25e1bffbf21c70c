-- What a contract sees of linked lists: the cells of each list in order, and the greatest number of cells.
use Rattle.std.specs.Prelude.{◌≡◌, ℕ, ◌<◌, ◌≤◌, ◌==◌, Bool, false, if◌then◌else◌, List, [], ◌∷◌, ◌++◌, map, length, Option, None, Some, IsSome, slice_index_or, slice_set, refl}
use Rattle.std.specs.Bool.{⊤}
use Rattle.std.specs.Option.{option_map}
use Rattle.std.specs.Coded.{Coded, code_by, coded×, coded_ℕ, coded_list}
use Rattle.id_table.specs.Records as records

-- the lists, each as the keys of its nodes with their values, and the room
pub record Chains (T : Type 0) : Type 0 where
  pub chains : List (List (ℕ × T))
  pub room : ℕ

-- linked lists, coded as a pair
abbrev pub chains_code : {T : Type 0} → Coded T → Coded (Chains T)
chains_code {T} code =
    code_by
    (List (List (ℕ × T)) × ℕ)
    (coded× (coded_list (coded_list (coded× coded_ℕ code))) coded_ℕ)
    (λ t. (t.chains, t.room))
    (λ p. record { chains = p.0; room = p.1 })
    (λ _. refl)

-- an optional key is this one
abbrev pub is_key : Option ℕ → ℕ → Bool
is_key None key = false
is_key (Some k) key = k == key

module _ {T : Type 0} where
  -- the key of a cell
  abbrev pub cell_key : ℕ × T → ℕ
  cell_key c = c.0

  -- the value of a cell
  abbrev pub cell_value : ℕ × T → T
  cell_value c = c.1

  -- the cells of all lists, one list after another
  abbrev pub all_cells : List (List (ℕ × T)) → List (ℕ × T)
  all_cells [] = []
  all_cells (c ∷ cs) = c ++ all_cells cs

  -- the list with this number
  abbrev pub chain_at : List (List (ℕ × T)) → ℕ → List (ℕ × T)
  chain_at cs list = slice_index_or cs list []

  -- the key of the first cell
  abbrev pub first_key : List (ℕ × T) → Option ℕ
  first_key [] = None
  first_key (c ∷ cs) = Some c.0

  -- the value of the first cell
  abbrev pub first_value : List (ℕ × T) → Option T
  first_value [] = None
  first_value (c ∷ cs) = Some c.1

  -- the value of the cell with a key in one list
  abbrev pub value_in : List (ℕ × T) → ℕ → Option T
  value_in c key = option_map cell_value (records.of_id cell_key c key)

  -- the value of the cell with a key in any of the lists
  abbrev pub value_of : List (List (ℕ × T)) → ℕ → Option T
  value_of cs key = value_in (all_cells cs) key

  -- a list with one more cell: before the cell with a key, or at the end
  abbrev pub put_before : Option ℕ → ℕ × T → List (ℕ × T) → List (ℕ × T)
  put_before next cell [] = cell ∷ []
  put_before next cell (c ∷ cs) = if is_key next c.0 then cell ∷ c ∷ cs else c ∷ put_before next cell cs

  -- the lists with one more cell in one of them
  abbrev pub with_cell : Chains T → ℕ → Option ℕ → ℕ × T → Chains T
  with_cell t list next cell = record t { chains = slice_set t.chains list (put_before next cell (chain_at t.chains list)) }

  -- the lists without the cell with a key
  abbrev pub without_cell : Chains T → ℕ → Chains T
  without_cell t key = record t { chains = map (λ c. records.without cell_key c key) t.chains }

  -- a list with another value in the cell with a key
  abbrev pub hold : ℕ → T → List (ℕ × T) → List (ℕ × T)
  hold key value c = records.change cell_key c key (λ x. (x.0, value))

  -- the lists with another value in the cell with a key
  abbrev pub with_value : Chains T → ℕ → T → Chains T
  with_value t key value = record t { chains = map (hold key value) t.chains }

  -- no two cells have the same key
  abbrev pub Apart : List (ℕ × T) → Type 0
  Apart [] = ⊤
  Apart (c ∷ cs) = (records.of_id cell_key cs c.0 ≡ None) × Apart cs

  -- the key is in this list, and in no other
  pub record IsOnlyIn (cs : List (List (ℕ × T))) (key list : ℕ) : Type 0 where
    pub within : list < length cs
    pub here : IsSome (value_in (chain_at cs list) key)
    pub elsewhere : (other : ℕ) → (other ≡ list → ⊥) → value_in (chain_at cs other) key ≡ None

  -- in whichever list the key is, this is its value
  abbrev pub ValueIs : List (List (ℕ × T)) → ℕ → T → Type 0
  ValueIs cs key held = (list : ℕ) (prefix back : List (ℕ × T)) (value : T) → chain_at cs list ≡ prefix ++ (key, value) ∷ back → value ≡ held

  -- in whichever list the key is, this is the key after it
  abbrev pub NextIs : List (List (ℕ × T)) → ℕ → Option ℕ → Type 0
  NextIs cs key next = (list : ℕ) (prefix back : List (ℕ × T)) (value : T) → chain_at cs list ≡ prefix ++ (key, value) ∷ back → next ≡ first_key back

  -- the invariant of lists: there are at most as many cells as room, and no two cells of a list have the same key
  pub record AreChains (t : Chains T) : Type 0 where
    pub few : length (all_cells t.chains) ≤ t.room
    pub apart : (list : ℕ) → list < length t.chains → Apart (chain_at t.chains list)
