-- What is inside lists: nodes in a slab with the keys of their neighbours, and the two ends of each list.
use Rattle.std.specs.Prelude.{◌≡◌, ℕ, zero, suc, ◌<◌, ◌≤◌, List, [], ◌∷◌, map, length, Option, None, Some, slice_index_or, slice_set, option_and_then}
use Rattle.std.specs.Bool.{⊤}
use Rattle.slab.specs.Slab.{Slab, get, slab_len, with_value}
use Rattle.linked_lists.specs.declared.node.Node.{Node}
use Rattle.linked_lists.specs.declared.node.Ends.{Ends}
use Rattle.linked_lists.specs.declared.node.Side.{Side}
use Rattle.linked_lists.specs.declared.node.Side.TheVariants.{After, Before}
use Rattle.linked_lists.specs.Chains.{all_cells, chain_at, Apart}

-- the ends of an empty list
abbrev pub no_ends : Ends
no_ends = record { first = None; last = None }

module _ {T : Type 0} where
  -- the key of the first cell, or the given key if there is no cell
  abbrev pub first_or : Option ℕ → List (ℕ × T) → Option ℕ
  first_or o [] = o
  first_or o (c ∷ cs) = Some c.0

  -- the key of the last cell, or the given key if there is no cell
  abbrev pub last_or : Option ℕ → List (ℕ × T) → Option ℕ
  last_or o [] = o
  last_or o (c ∷ cs) = last_or (Some c.0) cs

  -- the two ends of a list
  abbrev pub ends_of : List (ℕ × T) → Ends
  ends_of c = record { first = first_or None c; last = last_or None c }

  -- each cell's node is in this list, has the keys of the neighbouring cells, and holds the cell's value
  abbrev pub Linked : (ℕ → Option (Node T)) → ℕ → Option ℕ → List (ℕ × T) → Option ℕ → Type 0
  Linked node_at list before [] after = ⊤
  Linked node_at list before (c ∷ cs) after =
      (node_at c.0 ≡ Some (record { list = list; before = before; after = first_or after cs; value = c.1 }))
      × Linked node_at list (Some c.0) cs after

  -- the cell with this key and those that follow it, if its node exists
  abbrev pub stepped : ℕ → (Option ℕ → List (ℕ × T)) → Option (Node T) → List (ℕ × T)
  stepped key rest None = []
  stepped key rest (Some node) = (key, node.value) ∷ rest node.after

  -- the cells from a key on, at most the given number of them
  abbrev pub walked : (ℕ → Option (Node T)) → ℕ → Option ℕ → List (ℕ × T)
  walked node_at zero key = []
  walked node_at (suc n) None = []
  walked node_at (suc n) (Some key) = stepped key (walked node_at n) (node_at key)

  -- the cells of each list, from its first one on
  abbrev pub chains_in : Slab (Node T) → List Ends → List (List (ℕ × T))
  chains_in nodes ends = map (λ e. walked (get nodes) (slab_len nodes) e.first) ends

  -- a node with another forward link
  abbrev pub goes_on : Option ℕ → Node T → Node T
  goes_on to node = record node { after = to }

  -- a node with another backward link
  abbrev pub goes_back : Option ℕ → Node T → Node T
  goes_back to node = record node { before = to }

  -- a node with another link to this side
  abbrev pub goes : Side → Option ℕ → Node T → Node T
  goes After = goes_on
  goes Before = goes_back

  -- a node with another value
  abbrev pub holds : T → Node T → Node T
  holds value node = record node { value = value }

  -- the nodes with one of them changed, if it exists
  abbrev pub with_node : Slab (Node T) → ℕ → (Node T → Node T) → Option (Node T) → Slab (Node T)
  with_node nodes key f None = nodes
  with_node nodes key f (Some node) = with_value nodes key (f node)

  abbrev pub aimed : Slab (Node T) → Option ℕ → (Node T → Node T) → Slab (Node T)
  aimed nodes None f = nodes
  aimed nodes (Some key) f = with_node nodes key f (get nodes key)

  -- the node before the one with a key; without a key, the last of the list
  abbrev pub key_before : Slab (Node T) → List Ends → ℕ → Option ℕ → Option ℕ
  key_before nodes ends list None = (slice_index_or ends list no_ends).last
  key_before nodes ends list (Some key) = option_and_then (λ node. node.before) (get nodes key)

  -- the invariant: the nodes and ends spell these lists; no two cells of a list have the same key; each node is in a list;
  -- there are at most `room` nodes, and the slab has that capacity
  pub record IsKept (nodes : Slab (Node T)) (ends : List Ends) (chains : List (List (ℕ × T))) (room : ℕ) : Type 0 where
    pub linked : (list : ℕ) → list < length chains → Linked (get nodes) list None (chain_at chains list) None
    pub apart : (list : ℕ) → list < length chains → Apart (chain_at chains list)
    pub ended : ends ≡ map ends_of chains
    pub all : slab_len nodes ≡ length (all_cells chains)
    pub fits : slab_len nodes ≤ room
    pub space : room ≤ nodes.capacity

-- the ends after a list's first node is replaced; they change only if no node is before
abbrev pub aim_first : List Ends → ℕ → Option ℕ → Option ℕ → List Ends
aim_first ends list (Some key) to = ends
aim_first ends list None to = slice_set ends list (record (slice_index_or ends list no_ends) { first = to })

-- the ends after a list's last node is replaced; they change only if no node is after
abbrev pub aim_last : List Ends → ℕ → Option ℕ → Option ℕ → List Ends
aim_last ends list (Some key) to = ends
aim_last ends list None to = slice_set ends list (record (slice_index_or ends list no_ends) { last = to })

-- the ends after the first or the last node is replaced
abbrev pub aim : Side → List Ends → ℕ → Option ℕ → Option ℕ → List Ends
aim After = aim_first
aim Before = aim_last
