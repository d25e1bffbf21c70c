-- Lists by id: cells with ids in place of keys, and an index of the keys by id.
use Rattle.std.specs.Prelude.{◌≡◌, ℕ, List, map, length, Option, None, Some, MatchOption, option_and_then}
use Rattle.std.specs.Option.{option_map}
use Rattle.std.specs.List.{All}
use Rattle.id_table.specs.Records.{of_id, Rising}
use Rattle.id_table.specs.declared.entry.Entry.{Entry}
use Rattle.id_table.specs.Entries.{entry_id}
use Rattle.linked_lists.specs.declared.id_lists.Member.{Member}
use Rattle.linked_lists.specs.Chains.{Chains, all_cells, value_of, IsOnlyIn}

module _ {T : Type 0} where
  abbrev pub member_id : Member T → ℕ
  member_id m = m.who

  -- a cell with its id in place of its key
  abbrev pub named_cell : ℕ × Member T → ℕ × T
  named_cell c = (c.1.who, c.1.value)

  -- the lists with ids in place of keys
  abbrev pub named_chains : List (List (ℕ × Member T)) → List (List (ℕ × T))
  named_chains cs = map (map named_cell) cs

  abbrev pub named : Chains (Member T) → Chains T
  named t = record { chains = named_chains t.chains; room = t.room }

  -- the index entry of a cell
  abbrev pub entry_of : ℕ × Member T → Entry
  entry_of c = record { id = c.1.who; key = c.0 }

  -- the ids rise along the index; each entry has a cell with its id, and each cell its entry; there are as many entries as cells
  pub record IsIndexed (cs : List (List (ℕ × Member T))) (index : List Entry) : Type 0 where
    pub rising : Rising entry_id index
    pub known : (id : ℕ) (e : Entry) → of_id entry_id index id ≡ Some e → option_map member_id (value_of cs e.key) ≡ Some id
    pub listed : All (λ c. of_id entry_id index c.1.who ≡ Some (entry_of c)) (all_cells cs)
    pub count : length index ≡ length (all_cells cs)

  -- the list that an id is in, or none
  abbrev pub list_found : List (List (ℕ × T)) → ℕ → Option ℕ → Type 0
  list_found cs id found = MatchOption found (value_of cs id ≡ None) (IsOnlyIn cs id)

-- the key of the entry of an id, if there is an id and an entry
abbrev pub key_found : List Entry → Option ℕ → Option ℕ
key_found index next = option_and_then (λ id. option_map (λ (e : Entry). e.key) (of_id entry_id index id)) next
