use Rattle.std.proofs.Common.{◌≡◌, drop}
use Rattle.id_table.specs.Rows.{objects}
use Rattle.wind_core.specs.State.{task_named}
use Rattle.wind_core.proofs.queries.first_named.Given as goal

-- the first of the remaining ones is the first of all
abbrev pub invariant-loop-index : goal.invariant-loop-index
invariant-loop-index l = task_named (drop l.index (objects l.tasks.rows)) l.name ≡ task_named (objects l.tasks.rows) l.name
