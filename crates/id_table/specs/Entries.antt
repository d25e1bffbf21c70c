-- The entries of an index.
use Rattle.std.specs.Prelude.{ℕ}
use Rattle.id_table.specs.declared.entry.Entry.{Entry}

-- the id of an entry
abbrev pub entry_id : Entry → ℕ
entry_id e = e.id
