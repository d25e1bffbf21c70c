-- What is kept of each task while spans end one after another.
use Rattle.std.specs.Prelude.{◌≡◌, ℕ, nat_eq, unwrap_or, is_some, Bool, true, false, Option, None, List, []}
use Rattle.std.specs.HashMap.{get}
use Rattle.board_changes.specs.declared.look.Standing.{Standing}
use Rattle.board_changes.specs.declared.look.Standing.TheVariants as standings
use Rattle.board_changes.specs.declared.spans.Span.{Span}
use Rattle.trace_summary.specs.Progress.{kept_of, progress_of}
use Rattle.trace_summary.specs.Stretches.{responses_after, stretches}
use Rattle.trace_summary.specs.Times.{SpanLists}
use Rattle.trace_summary.specs.declared.response.Responses.{Responses}
use Rattle.trace_summary.specs.declared.stretch.Kind.{Kind}
use Rattle.trace_summary.specs.declared.stretch.Kind.TheVariants as kinds
use Rattle.trace_summary.specs.declared.stretch.Progress.{Progress}
use Rattle.trace_summary.specs.declared.times.LongestTimes.{LongestTimes}

-- the stretches of one kind in these spans, for each task
pub record KeepsStretches (kind : Kind) (spans : List Span) (found : ℕ → Option Progress) : Type 0 where
  pub same : (who : ℕ) → unwrap_or (found who) (progress_of []) ≡ progress_of (stretches kind who spans)

-- the responses in these spans, for each task
pub record KeepsResponses (spans : List Span) (found : ℕ → Option Responses) : Type 0 where
  pub same : (who : ℕ) → unwrap_or (found who) (kept_of (record { since = None; times = [] })) ≡ kept_of (responses_after who spans (record { since = None; times = [] }))

-- a span with this standing changes the responses of its task: the task waits in it, or has waited and runs
abbrev pub is_noted : Standing → Responses → Bool
is_noted standings.Waiting r = true
is_noted standings.Running r = is_some r.since
is_noted standings.Ready r = false
is_noted standings.Sleeping r = false
is_noted standings.Suspended r = false

-- the longest times of each task in these spans
pub record KeepsTimes (times : LongestTimes) (spans : SpanLists) : Type 0 where
  pub waits : KeepsStretches kinds.Wait spans.all (get nat_eq times.waits)
  pub ready : KeepsStretches kinds.Ready spans.uninterrupted (get nat_eq times.ready)
  pub inherited : KeepsStretches kinds.Inherited spans.all (get nat_eq times.inherited)
  pub responses : KeepsResponses spans.all (get nat_eq times.responses)
