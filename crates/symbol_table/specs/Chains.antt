-- Chains of entries by hash, each from the newest entry to the oldest. The number of chains grows with the table.
use Rattle.std.specs.Prelude.{◌≡◌, ℕ, zero, suc, ◌+◌, ◌-◌, ◌*◌, ◌/◌, ◌%◌, ◌^◌, ◌<◌, ◌≤◌, Bool, not, ◌&&◌, ◌||◌, ◌==◌, if◌then◌else◌, List, [], ◌∷◌, length, map, ◌++◌, slice_index, slice_set}
use Rattle.std.specs.List.{All}
use Rattle.wind_base.specs.Limits.{most_symbols}
use Rattle.symbol_table.specs.declared.symbol.Symbol.{Symbol}
use Rattle.symbol_table.specs.declared.hashes.Hashes.{Hashes}
use Rattle.symbol_table.specs.declared.links.Links.{Links}
use Rattle.symbol_table.specs.declared.links.Key.{Key}
use Rattle.symbol_table.specs.declared.links.Key.TheVariants as keys
use Rattle.symbol_table.specs.Newest.{is_named}
use Rattle.symbol_table.specs.State.{TableState, IsNamed}

-- how many hashes there are
abbrev pub most_hashes : ℕ
most_hashes = 65536

-- the least number of chains by name, and of chains by value
abbrev pub fewest_heads : ℕ
fewest_heads = 64

-- a name's hash continued from h: Bernstein's hash, of 16 bits
abbrev pub hash_from : ℕ → List ℕ → ℕ
hash_from h [] = h
hash_from h (b ∷ bs) = hash_from ((h * 33 + b) % most_hashes) bs

-- the hash of a name, from a fixed seed
unfoldable pub name_hash : List ℕ → ℕ
name_hash name = hash_from 5381 name

-- the hash of a value: the upper 16 bits of its 32-bit product with 2654435769, which is 2^32 over the golden ratio
unfoldable pub value_hash : ℕ → ℕ
value_hash value = value * 2654435769 % 2 ^ 32 / most_hashes

-- the hash of an entry, by its name or by its value
abbrev pub hash_by : Key → Symbol → ℕ
hash_by keys.Name s = name_hash s.name
hash_by keys.Value s = value_hash s.value

-- both hashes of an entry
abbrev pub hashes_of : Symbol → Hashes
hashes_of s = record { name = name_hash s.name; value = value_hash s.value }

-- the one by name, or by value
abbrev pub hash_in : Key → Hashes → ℕ
hash_in keys.Name h = h.name
hash_in keys.Value h = h.value

-- the chain of an entry: its hash modulo n, with n chains
abbrev pub chain_by : Key → ℕ → Symbol → ℕ
chain_by key n s = hash_by key s % n

-- with n chains by name, or n by value
abbrev pub chain_by_name : ℕ → Symbol → ℕ
chain_by_name n s = chain_by keys.Name n s

abbrev pub chain_by_value : ℕ → Symbol → ℕ
chain_by_value n s = chain_by keys.Value n s

-- the entry has this name, and is global if only global ones are sought
abbrev pub is_sought : Bool → List ℕ → Symbol → Bool
is_sought global_only name s = (not global_only || s.global) && is_named name s

-- the number, counted from 1, of the newest of the first n entries that is in the chain h, or 0 if there is none
abbrev pub newest_link : List ℕ → ℕ → ℕ → ℕ
newest_link chains zero h = 0
newest_link chains (suc n) h = if slice_index chains n == h then suc n else newest_link chains n h

-- for each entry, the newest entry before it in its own chain; for each chain, its newest entry
pub record LinksState : Type 0 where
  pub before : List ℕ
  pub heads : List ℕ

-- the program's links as plain data
abbrev pub state_of : Links → LinksState
state_of l = record { before = l.before.items; heads = l.heads.items }

-- the entries, with these chains, are linked into them
pub record AreChained (chains : List ℕ) (s : LinksState) : Type 0 where
  pub links : length s.before ≡ length chains
  pub some : 0 < length s.heads
  pub each : (i : ℕ) → i < length chains → slice_index s.before i ≡ newest_link chains i (slice_index chains i)
  pub first : (h : ℕ) → h < length s.heads → slice_index s.heads h ≡ newest_link chains (length chains) h

-- these entries are linked into their chains
abbrev pub AreLinked : Key → List Symbol → LinksState → Type 0
AreLinked key list s = AreChained (map (chain_by key (length s.heads)) list) s

-- by name, and by value
abbrev pub AreNamed : List Symbol → LinksState → Type 0
AreNamed list s = AreLinked keys.Name list s

abbrev pub AreValued : List Symbol → LinksState → Type 0
AreValued list s = AreLinked keys.Value list s

-- the links with one entry more: it links to the newest entry of its chain, and becomes the newest
abbrev pub linked : ℕ → LinksState → LinksState
linked h s = record { before = s.before ++ slice_index s.heads h ∷ []; heads = slice_set s.heads h (length s.before + 1) }

-- the entries in order of adding, how many more there is room for, and their chains by name and by value
pub record ChainsState : Type 0 where
  pub list : List Symbol
  pub spare : ℕ
  pub names : LinksState
  pub values : LinksState

-- the table that they are chains of
abbrev pub table_of : ChainsState → TableState
table_of s = record { list = s.list; spare = s.spare }

-- the invariant of chains
pub record AreChains (s : ChainsState) : Type 0 where
  pub few : length s.list + s.spare ≤ most_symbols
  -- every entry has a name of 1 to 255 bytes
  pub named : All IsNamed s.list
  pub names : AreNamed s.list s.names
  pub values : AreValued s.list s.values
  -- there are at least as many chains of each kind as entries and room for more
  pub by_name : length s.list + s.spare ≤ length s.names.heads
  pub by_value : length s.list + s.spare ≤ length s.values.heads

-- the numbers, counted from 1, of those of the first n entries that are in the chain h, from the newest to the oldest
abbrev pub numbers_of : List ℕ → ℕ → ℕ → List ℕ
numbers_of chains zero h = []
numbers_of chains (suc n) h = if slice_index chains n == h then suc n ∷ numbers_of chains n h else numbers_of chains n h

-- from this number on, the links lead through exactly these entries
abbrev pub LeadsThrough : List ℕ → ℕ → List ℕ → Type 0
LeadsThrough before at [] = at ≡ 0
LeadsThrough before at (n ∷ ns) = (at ≡ n) × LeadsThrough before (slice_index before (n - 1)) ns

-- each chain holds exactly the entries of its head, from the newest to the oldest
pub record ChainsLaw : Type 0 where
  pub exact : (chains : List ℕ) (s : LinksState) (h : ℕ) → AreChained chains s → h < length s.heads
      → LeadsThrough s.before (slice_index s.heads h) (numbers_of chains (length chains) h)
