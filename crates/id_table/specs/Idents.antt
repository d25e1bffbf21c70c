-- The ids that are known beforehand.
use Rattle.std.specs.Prelude.{ℕ}

-- the id of the shell's task, which is made first
abbrev pub shell_id : ℕ
shell_id = 1
