use Rattle.std.proofs.Common.{◌≡◌, ◌++◌, drop, map, take}
use Rattle.trace_summary.specs.Adding.{added}
use Rattle.trace_summary.proofs.tally.add_counts.Given as goal

-- the first tasks were gone through
abbrev pub invariant-loop-task : goal.invariant-loop-task
invariant-loop-task l = l.tasks ≡ map (added l.id l.more) (take l.task-index l.initial.tasks) ++ drop l.task-index l.initial.tasks
