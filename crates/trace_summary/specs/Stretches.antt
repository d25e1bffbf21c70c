-- The longest stretches of time of a task, from its spans.
use Rattle.std.specs.Prelude.{ℕ, ◌-◌, ◌==◌, ◌&&◌, max, Bool, true, false, if◌then◌else◌, List, [], ◌∷◌, Option, None, Some}
use Rattle.board_changes.specs.declared.look.Look.{Look}
use Rattle.board_changes.specs.declared.look.Standing.{Standing}
use Rattle.board_changes.specs.declared.look.Standing.TheVariants as standings
use Rattle.board_changes.specs.declared.spans.Span.{Span}
use Rattle.trace_summary.specs.Longest.{longer_by, longest_by}
use Rattle.trace_summary.specs.declared.stretch.Kind.{Kind}
use Rattle.trace_summary.specs.declared.stretch.Kind.TheVariants as kinds
use Rattle.trace_summary.specs.declared.stretch.Stretch.{Stretch}

-- ---- stretches
abbrev pub is_waiting : Standing → Bool
is_waiting standings.Waiting = true
is_waiting s = false

abbrev pub is_ready : Standing → Bool
is_ready standings.Ready = true
is_ready s = false

-- a task with this look waits, is ready and doesn't run, or has an inherited priority
abbrev pub has_kind : Kind → Look → Bool
has_kind kinds.Wait l = is_waiting l.standing
has_kind kinds.Ready l = is_ready l.standing
has_kind kinds.Inherited l = l.inherits

-- a span as a stretch, with what the task waits for
abbrev pub stretch_of : Span → Stretch
stretch_of s = record { object = s.look.object; from = s.from; to = s.to }

-- a stretch that begins where the newest one ends makes it longer; any other is one more
abbrev pub with_stretch : Stretch → List Stretch → List Stretch
with_stretch s [] = s ∷ []
with_stretch s (newest ∷ older) = if newest.to == s.from then record newest { to = s.to } ∷ older else s ∷ (newest ∷ older)

-- adds a span if it is of this task and kind
abbrev pub with_span : Kind → ℕ → Span → List Stretch → List Stretch
with_span kind who s made = if s.who == who && has_kind kind s.look then with_stretch (stretch_of s) made else made

-- adds spans, the first of them first
abbrev pub with_spans : Kind → ℕ → List Span → List Stretch → List Stretch
with_spans kind who [] made = made
with_spans kind who (s ∷ ss) made = with_spans kind who ss (with_span kind who s made)

-- the stretches of a task in its spans, the newest first
abbrev pub stretches : Kind → ℕ → List Span → List Stretch
stretches kind who spans = with_spans kind who spans []

-- ---- the longest
abbrev pub length_of : Stretch → ℕ
length_of s = s.to - s.from

-- a stretch, or the longest of those before it, if none is longer
abbrev pub longer : Stretch → Option Stretch → Option Stretch
longer s best = longer_by length_of s best

-- the longest stretch; of several, the earliest
abbrev pub longest : List Stretch → Option Stretch
longest made = longest_by length_of made

-- ---- responses
-- since when a task has waited for nothing and hasn't run, if it waited; and how long that took each time, the newest first
pub record ResponseState : Type 0 where
  pub since : Option ℕ
  pub times : List ℕ

-- the task runs at this time
abbrev pub with_response : Option ℕ → ℕ → List ℕ → List ℕ
with_response None time times = times
with_response (Some since) time times = (time - since) ∷ times

-- a wait ends, or the task runs
abbrev pub response_by : Standing → Span → ResponseState → ResponseState
response_by standings.Waiting s r = record r { since = Some s.to }
response_by standings.Running s r = record { since = None; times = with_response r.since s.from r.times }
response_by standings.Ready s r = r
response_by standings.Sleeping s r = r
response_by standings.Suspended s r = r

-- after a span, if it is of this task
abbrev pub response_after : ℕ → Span → ResponseState → ResponseState
response_after who s r = if s.who == who then response_by s.look.standing s r else r

-- after spans, the first of them first
abbrev pub responses_after : ℕ → List Span → ResponseState → ResponseState
responses_after who [] r = r
responses_after who (s ∷ ss) r = responses_after who ss (response_after who s r)

-- each time from the end of a wait to the next span in which the task runs
abbrev pub responses : ℕ → List Span → List ℕ
responses who spans = (responses_after who spans (record { since = None; times = [] })).times

-- the greatest number; 0 if there is none
abbrev pub greatest : List ℕ → ℕ
greatest [] = 0
greatest (n ∷ ns) = max n (greatest ns)
