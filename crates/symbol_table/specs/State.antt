-- What a contract sees of the symbol table, and what its calls leave.
use Rattle.std.specs.Prelude.{ℕ, ◌+◌, ◌-◌, ◌<◌, ◌≤◌, not, ◌==◌, List, [], ◌∷◌, ◌++◌, length, count_by}
use Rattle.std.specs.List.{All, filter}
use Rattle.wind_base.specs.Limits.{longest_name, most_symbols}
use Rattle.symbol_table.specs.declared.symbol.Symbol.{Symbol}

-- the entries in order of adding, and how many more there is room for
pub record TableState : Type 0 where
  pub list : List Symbol
  pub spare : ℕ

-- the entry has a name
abbrev pub HasName : Symbol → Type 0
HasName s = 0 < length s.name

-- the entry has a name of 1 to 255 bytes
pub record IsNamed (s : Symbol) : Type 0 where
  pub some : HasName s
  pub within : length s.name ≤ longest_name

-- the invariant of every table
pub record IsTable (s : TableState) : Type 0 where
  -- there are at most 65,536 entries, even once the room is used up
  pub few : length s.list + s.spare ≤ most_symbols
  -- every entry has a name of 1 to 255 bytes
  pub named : All IsNamed s.list

-- the table with one entry more
abbrev pub added : TableState → Symbol → TableState
added s x = record { list = s.list ++ x ∷ []; spare = s.spare - 1 }

-- the entries without those of a group
abbrev pub without_group : ℕ → List Symbol → List Symbol
without_group group ss = filter (λ s. not (s.group == group)) ss

-- how many entries a group has
abbrev pub count_of : ℕ → List Symbol → ℕ
count_of group ss = count_by (λ s. s.group == group) ss
