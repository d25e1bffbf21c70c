use Rattle.std.proofs.Common.{◌≡◌, ◌++◌, drop, map}
use Rattle.trace_state.specs.Tasks.{task_data}
use Rattle.trace_state.specs.Held.{items_in}
use Rattle.trace_state.proofs.tasks.tasks.Given as goal

abbrev pub invariant-loop-place : goal.invariant-loop-place
invariant-loop-place g l =
    items_in l.items ++ map (task_data l.world.objects) (drop l.place l.world.kern.tasks) ≡ map (task_data l.world.objects) l.world.kern.tasks
