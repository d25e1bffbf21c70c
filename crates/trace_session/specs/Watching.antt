-- The spans that a summary needs.
use Rattle.std.specs.Prelude.{ℕ, zero, suc, if◌then◌else◌, Option, None}
use Rattle.board_changes.specs.Spans.{SpanState, closed, observed}
use Rattle.board_trace.specs.Before.{before_step}
use Rattle.board_trace.specs.Running.{running_task}
use Rattle.board_trace.specs.Snapshots.{snapshot_of}
use Rattle.board_trace.specs.Steps.{is_instruction}
use Rattle.board_trace.specs.declared.moment.BeforeStep.{BeforeStep}
use Rattle.kernel_world.specs.State.{WorldState}
use Rattle.wind_machine.specs.Next.{is_active}
use Rattle.wind_machine.specs.Run.{Answers, after}
use Rattle.wind_machine.specs.State.{State}
use Rattle.trace_summary.specs.Times.{SpanLists}
use Rattle.trace_session.specs.Spans.{no_spans, observed_in}

-- the spans of tasks; the same if an interrupt routine leaves the running task running; and the task that runs in those
pub record WatchState : Type 0 where
  pub spans : SpanState
  pub uninterrupted : SpanState
  pub runner : Option ℕ

-- nothing was looked at
abbrev pub no_watch : WatchState
no_watch = record { spans = no_spans; uninterrupted = no_spans; runner = None }

-- while an interrupt routine is active, the same task runs as before
abbrev pub runner_in : Option ℕ → WorldState → Option ℕ
runner_in old w = if is_active w then old else running_task w

-- the tasks are looked at in this state too
abbrev pub watched : WatchState → State → WatchState
watched w s = record {
  spans = observed_in w.spans s;
  uninterrupted = observed w.uninterrupted s.time (snapshot_of s.world).tasks (runner_in w.runner s.world);
  runner = runner_in w.runner s.world;
}

-- after a step that isn't one instruction, the tasks are looked at; an instruction leaves them as they are
abbrev pub watched_by : BeforeStep → WatchState → State → WatchState
watched_by b w t = if is_instruction b t.world.output then w else watched w t

-- after the first k steps from s
abbrev pub watched_after : Answers → State → ℕ → WatchState
watched_after said s zero = watched no_watch s
watched_after said s (suc k) = watched_by (before_step (after said s k)) (watched_after said s k) (after said s (suc k))

-- the spans that have ended by this time, when all of them end
abbrev pub lists_at : WatchState → ℕ → SpanLists
lists_at w time = record { all = (closed w.spans time).done; uninterrupted = (closed w.uninterrupted time).done }

-- the spans of a run that ends after k steps
abbrev pub span_lists_of : Answers → State → ℕ → SpanLists
span_lists_of said s k = lists_at (watched_after said s k) (after said s k).time
