use Rattle.std.proofs.Common.{◌≡◌, ◌++◌, drop, map}
use Rattle.trace_state.specs.Held.{items_in}
use Rattle.trace_summary.specs.Data.{task_data}
use Rattle.trace_summary.proofs.json.tasks_value.Given as goal

abbrev pub invariant-loop-task : goal.invariant-loop-task
invariant-loop-task l = items_in l.items ++ map (task_data l.all) (drop l.task-index l.tasks) ≡ map (task_data l.all) l.tasks
