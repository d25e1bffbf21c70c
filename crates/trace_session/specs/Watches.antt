-- What is kept of the spans of a run under way.
use Rattle.std.specs.Prelude.{◌≡◌, []}
use Rattle.trace_summary.specs.Keeping.{KeepsTimes}
use Rattle.trace_summary.specs.Times.{SpanLists}
use Rattle.trace_session.specs.Watching.{WatchState}
use Rattle.trace_session.specs.declared.watch.Watch.{Watch}

-- the spans of a watch, and the task that runs, as plain data
abbrev pub watch_state : Watch → WatchState
watch_state w = record { spans = w.spans; uninterrupted = w.uninterrupted; runner = w.runner }

-- the spans that have ended
abbrev pub lists_in : WatchState → SpanLists
lists_in s = record { all = s.spans.done; uninterrupted = s.uninterrupted.done }

-- without these
abbrev pub emptied : WatchState → WatchState
emptied s = record {
  spans = record { going = s.spans.going; done = [] };
  uninterrupted = record { going = s.uninterrupted.going; done = [] };
  runner = s.runner;
}

-- the spans that go on, the task that runs, and the longest times in the spans that have ended
pub record KeepsWatch (w : Watch) (s : WatchState) : Type 0 where
  pub going : watch_state w ≡ emptied s
  pub times : KeepsTimes w.times (lists_in s)
