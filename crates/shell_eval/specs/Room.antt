-- Room that was allocated ahead.
use Rattle.std.specs.Prelude.{ℕ, List}
use Rattle.shell_eval.specs.declared.code.Entry.{Entry}

-- entries, last one first, and how many more there is room for
pub record Entries : Type 0 where
  pub list : List Entry
  pub room : ℕ
