-- The node of a key that is in a list, and the chains that changed nodes hold.
use Rattle.std.proofs.Common.{◌≡◌, ℕ, ◌+◌, ◌<◌, List, length, map, set, Option, Some, None, sym, ap, ◌∙◌, subst, arith}
use Rattle.std.specs.Prelude.{IsSome}
use Rattle.std.proofs.lemmas.Option.{same_Some}
use Rattle.slab.specs.Slab.{Slab, Updates, get, slab_len}
use Rattle.id_table.specs.Records.{without}
use Rattle.linked_lists.specs.declared.node.Node.{Node}
use Rattle.linked_lists.specs.declared.node.Ends.{Ends}
use Rattle.linked_lists.specs.Chains.{Chains, all_cells, cell_key, chain_at, hold, put_before, value_in, value_of, with_cell}
use Rattle.linked_lists.specs.Inside.{IsKept, aim_first, aim_last, aimed, chains_in, goes_back, goes_on, holds, key_before, with_node}
use Rattle.linked_lists.proofs.Keeping.{chains_alike, closed_ends, closed_nodes, ends_length, kept_inserted, kept_removed, kept_view, key_before_is, neighbours, some_is, split_next}
use Rattle.linked_lists.proofs.Telling.{found_at, kept_hold}

module _ {T : Type 0} where
  -- a key in a list has a node
  pub node_live : (nodes : Slab (Node T)) (ends : List Ends) (cs : List (List (ℕ × T))) (room key : ℕ) → IsKept nodes ends cs room → IsSome (value_of cs key) → IsSome (get nodes key)
  node_live nodes ends cs room key is there = some_is (get nodes key) _ (found_at nodes ends cs room key is there).3

  pub key_live : (nodes : Slab (Node T)) (ends : List Ends) (room key : ℕ) (s : Chains T) → IsKept nodes ends (chains_in nodes ends) room
      → ◌≡◌ {A = Chains T} (record { chains = chains_in nodes ends; room = room }) s → IsSome (value_of s.chains key) → IsSome (get nodes key)
  key_live nodes ends room key s is seen there = node_live nodes ends (chains_in nodes ends) room key is (subst (λ (t : Chains T). IsSome (value_of t.chains key)) (sym seen) there)

  -- nodes that hold some chains hold those that are read from them
  pub kept_again : (nodes : Slab (Node T)) (ends : List Ends) (cs : List (List (ℕ × T))) (room : ℕ) → IsKept nodes ends cs room → IsKept nodes ends (chains_in nodes ends) room
  kept_again nodes ends cs room is = subst (λ ds. IsKept nodes ends ds room) (sym (kept_view nodes ends cs room is)) is

  -- and what is seen of them is those chains
  pub seen_again : (nodes : Slab (Node T)) (ends : List Ends) (cs : List (List (ℕ × T))) (room : ℕ) → IsKept nodes ends cs room
      → ◌≡◌ {A = Chains T} (record { chains = chains_in nodes ends; room = room }) (record { chains = cs; room = room })
  seen_again nodes ends cs room is = chains_alike (chains_in nodes ends) cs room (kept_view nodes ends cs room is)

  -- a node holds another value
  pub set_in : (nodes : Slab (Node T)) (ends : List Ends) (room key : ℕ) (value : T) (node : Node T) → IsKept nodes ends (chains_in nodes ends) room → get nodes key ≡ Some node
      → IsKept (with_node nodes key (holds value) (Some node)) ends (map (hold key value) (chains_in nodes ends)) room
  set_in nodes ends room key value node is at =
      subst (λ n. IsKept n ends (map (hold key value) (chains_in nodes ends)) room) (ap (with_node nodes key (holds value)) at) (kept_hold nodes ends (chains_in nodes ends) room key value is)

  -- a node is inserted before the node with the key `next`, or at the end of its list
  pub inserted_in : (nodes more nodes₂ : Slab (Node T)) (ends ends₂ : List Ends) (room list key : ℕ) (next before : Option ℕ) (value : T) (s : Chains T) → IsKept nodes ends (chains_in nodes ends) room
      → ◌≡◌ {A = Chains T} (record { chains = chains_in nodes ends; room = room }) s → list < length s.chains → ((k : ℕ) → next ≡ Some k → IsSome (value_in (chain_at s.chains list) k))
      → length (all_cells s.chains) < s.room → before ≡ key_before nodes ends list next → get nodes key ≡ None
      → Updates nodes more key (Some (record { list = list; before = before; after = next; value = value })) → slab_len more ≡ slab_len nodes + 1 → more.capacity ≡ nodes.capacity
      → nodes₂ ≡ aimed (aimed more before (goes_on (Some key))) next (goes_back (Some key)) → ends₂ ≡ aim_last (aim_first ends list before (Some key)) list next (Some key)
      → IsKept nodes₂ ends₂ (chains_in nodes₂ ends₂) room × ◌≡◌ {A = Chains T} (record { chains = chains_in nodes₂ ends₂; room = room }) (with_cell s list next (key, value))
  inserted_in nodes more nodes₂ ends ends₂ room list key next before value s is seen within there few before_is vacant updates count capacity nodes_are ends_are =
      let cs = chains_in nodes ends in
      let inside : list < length cs = subst (λ (t : Chains T). list < length t.chains) (sym seen) within in
      let split = split_next (chain_at cs list) next (key, value) (λ k e. subst (λ (t : Chains T). IsSome (value_in (chain_at t.chains list) k)) (sym seen) (there k e)) in
      let new = set cs list (put_before next (key, value) (chain_at cs list)) in
      let now : IsKept nodes₂ ends₂ new room =
      rw (nodes_are, ends_are) (kept_inserted nodes more ends cs room list key next before value is inside split
      (before_is ∙ key_before_is nodes ends cs room list next (key, value) is inside split) vacant updates count capacity
      (omega (arith, is.all, ap (λ (t : Chains T). length (all_cells t.chains)) seen, ap (λ (t : Chains T). t.room) seen, few))) in
      (kept_again nodes₂ ends₂ new room now, seen_again nodes₂ ends₂ new room now ∙ ap (λ (t : Chains T). with_cell t list next (key, value)) seen)

  -- a node is removed
  pub removed_in : (nodes fewer nodes₂ : Slab (Node T)) (ends ends₂ : List Ends) (room key : ℕ) (node : Node T) → IsKept nodes ends (chains_in nodes ends) room
      → IsSome (value_of (chains_in nodes ends) key) → get nodes key ≡ Some node → Updates nodes fewer key None → slab_len fewer + 1 ≡ slab_len nodes → fewer.capacity ≡ nodes.capacity
      → nodes₂ ≡ closed_nodes fewer node → ends₂ ≡ closed_ends ends node → IsKept nodes₂ ends₂ (map (λ d. without cell_key d key) (chains_in nodes ends)) room
  removed_in nodes fewer nodes₂ ends ends₂ room key node is there at updates count capacity nodes_are ends_are =
      let cs = chains_in nodes ends in
      let found = found_at nodes ends cs room key is there in
      rw (nodes_are, ends_are) (kept_removed nodes fewer ends cs room found.2.list key found.0 node is found.2.within found.2.spot at updates count capacity)

  -- the removed node's list is one of them, and its neighbours stay
  pub list_within : (nodes : Slab (Node T)) (ends : List Ends) (room key : ℕ) (node : Node T) → IsKept nodes ends (chains_in nodes ends) room → IsSome (value_of (chains_in nodes ends) key)
      → get nodes key ≡ Some node → node.list < length ends
  list_within nodes ends room key node is there at =
      let cs = chains_in nodes ends in
      let found = found_at nodes ends cs room key is there in
      subst (λ l. l < length ends) (ap (λ (n : Node T). n.list) (same_Some _ _ (sym found.3 ∙ at))) (subst (λ n. found.2.list < n) (sym (ends_length nodes ends cs room is)) found.2.within)

  pub neighbours_stay : (nodes fewer : Slab (Node T)) (ends : List Ends) (room key : ℕ) (node : Node T) → IsKept nodes ends (chains_in nodes ends) room → IsSome (value_of (chains_in nodes ends) key)
      → get nodes key ≡ Some node → Updates nodes fewer key None
      → ((k : ℕ) → node.before ≡ Some k → IsSome (get fewer k)) × ((k : ℕ) → node.after ≡ Some k → IsSome (get fewer k))
  neighbours_stay nodes fewer ends room key node is there at updates =
      let cs = chains_in nodes ends in
      let found = found_at nodes ends cs room key is there in
      neighbours nodes fewer ends cs room found.2.list key found.0 node is found.2.within found.2.spot at updates
