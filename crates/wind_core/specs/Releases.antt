-- All tasks that wait at a place go on without a result.
use Rattle.std.specs.Prelude.{List}
use Rattle.std.specs.List.{fold}
use Rattle.id_table.specs.declared.ident.Place.{Place}
use Rattle.task_block.specs.declared.task.Task.{Task}
use Rattle.wind_core.specs.State.{KernState}
use Rattle.wind_core.specs.Orders.{waiters}
use Rattle.wind_core.specs.Moves.{release}

-- the waits of these tasks end without a result, one after the other
abbrev pub releases : KernState → List Task → KernState
releases s ts = fold (λ r t. release r t.id) s ts

-- the waits of all tasks at a place end without a result, in their order there
abbrev pub release_all : KernState → Place → KernState
release_all s place = releases s (waiters s.tasks place)
