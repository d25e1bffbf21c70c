-- The longest times of a task.
use Rattle.std.specs.Prelude.{ℕ, List}
use Rattle.board_changes.specs.declared.spans.Span.{Span}
use Rattle.trace_summary.specs.Stretches.{greatest, longest, responses, stretches}
use Rattle.trace_summary.specs.declared.stretch.Kind.TheVariants as kinds
use Rattle.trace_summary.specs.declared.times.TaskTimes.{TaskTimes}

-- the spans of a run; and the same if an interrupt routine leaves the running task running
pub record SpanLists : Type 0 where
  pub all : List Span
  pub uninterrupted : List Span

-- the longest wait, time ready and not running, time with an inherited priority, and time from the end of a wait until it runs
abbrev pub times_of : SpanLists → ℕ → TaskTimes
times_of spans who = record {
  wait = longest (stretches kinds.Wait who spans.all);
  ready = longest (stretches kinds.Ready who spans.uninterrupted);
  inherited = longest (stretches kinds.Inherited who spans.all);
  response = greatest (responses who spans.all);
}
