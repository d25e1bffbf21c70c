use Rattle.std.proofs.Common.{◌≡◌, ◌++◌, drop, map}
use Rattle.trace_summary.specs.Adding.{timed}
use Rattle.trace_summary.specs.Keeping.{KeepsTimes}
use Rattle.trace_summary.specs.Times.{SpanLists}
use Rattle.trace_summary.proofs.tally.summaries.Given as goal

abbrev pub invariant-loop-task : goal.invariant-loop-task
invariant-loop-task l = (spans : SpanLists) → KeepsTimes l.times spans → l.list.items ++ map (timed spans) (drop l.task-index l.tasks) ≡ map (timed spans) l.tasks
