-- The newest entry of a list in order of adding.
use Rattle.std.specs.Prelude.{ℕ, Bool, ◌&&◌, ◌==◌, List, Option, reverse}
use Rattle.std.specs.List.{find as first}
use Rattle.std.specs.Str.{bytes_eq}
use Rattle.symbol_table.specs.declared.symbol.Symbol.{Symbol}

-- the newest entry that passes: the first from the end
abbrev pub newest : (Symbol → Bool) → List Symbol → Option Symbol
newest p tab = first p (reverse tab)

-- the entry has this name
abbrev pub is_named : List ℕ → Symbol → Bool
is_named name s = bytes_eq s.name name

-- the entry is global and has this name
abbrev pub is_global_named : List ℕ → Symbol → Bool
is_global_named name s = s.global && is_named name s

-- the entry has this value
abbrev pub has_value : ℕ → Symbol → Bool
has_value value s = s.value == value

-- the newest entry with a name
abbrev pub find : List Symbol → List ℕ → Option Symbol
find tab name = newest (is_named name) tab

-- the newest global entry with a name
abbrev pub find_global : List Symbol → List ℕ → Option Symbol
find_global tab name = newest (is_global_named name) tab

-- the newest entry with a value
abbrev pub find_by_value : List Symbol → ℕ → Option Symbol
find_by_value tab value = newest (has_value value) tab
