use Rattle.std.proofs.Common.{◌≡◌, ◌++◌, drop, map}
use Rattle.trace_state.specs.Held.{items_in}
use Rattle.trace_json.specs.Lines.{standing_data}
use Rattle.trace_json.proofs.ending.standings.Given as goal

abbrev pub invariant-loop-task : goal.invariant-loop-task
invariant-loop-task l = items_in l.items ++ map standing_data (drop l.task-index l.tasks) ≡ map standing_data l.tasks
