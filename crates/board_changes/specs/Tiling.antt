-- The spans of a task tile its life.
use Rattle.std.specs.Prelude.{◌≡◌, ℕ, ◌<◌, ◌≤◌, ◌==◌, ◌&&◌, Bool, true, false, nat_le, nat_lt, if◌then◌else◌, List, [], ◌∷◌, ◌++◌, Option, None, Some}
use Rattle.std.specs.Option.{option_map}
use Rattle.std.specs.List.{list_any}
use Rattle.board_changes.specs.declared.view.TaskView.{TaskView}
use Rattle.board_changes.specs.declared.look.Look.{Look}
use Rattle.board_changes.specs.declared.look.Standing.{Standing}
use Rattle.board_changes.specs.declared.look.Standing.TheVariants.{Running, Ready, Waiting, Sleeping, Suspended}
use Rattle.board_changes.specs.declared.spans.Span.{Span}
use Rattle.board_changes.specs.Looks.{is_same, look_of}
use Rattle.board_changes.specs.Spans.{SpanState, closed, observed, view_of}

-- an observation of the tasks: board time, the live tasks, and the task that runs, if one does
pub record Observation : Type 0 where
  pub time : ℕ
  pub views : List TaskView
  pub runner : Option ℕ

-- the time of the last observation; the last one is first
abbrev pub last_time : List Observation → ℕ
last_time [] = 0
last_time (m ∷ ms) = m.time

-- no two tasks have one id
abbrev pub AreDistinct : List TaskView → Type 0
AreDistinct [] = Unit {0}
AreDistinct (v ∷ vs) = (view_of vs v.id ≡ None) × AreDistinct vs

-- times don't decrease, and no two tasks of an observation have one id
abbrev pub AreInOrder : List Observation → Type 0
AreInOrder [] = Unit {0}
AreInOrder (m ∷ ms) = (last_time ms ≤ m.time) × AreDistinct m.views × AreInOrder ms

-- the spans after these observations
abbrev pub spans_after : List Observation → SpanState
spans_after [] = record { going = []; done = [] }
spans_after (m ∷ ms) = observed (spans_after ms) m.time m.views m.runner

-- the spans of a run with these observations that ends at this time
abbrev pub spans_until : ℕ → List Observation → List Span
spans_until end ms = (closed (spans_after ms) end).done

-- a span is of this task and covers this time; it doesn't cover the time at which it ends
abbrev pub covers : ℕ → ℕ → Span → Bool
covers who t s = s.who == who && (nat_le s.from t && nat_lt t s.to)

-- what spans say of a task at a time: the looks of those that cover it
abbrev pub said_at : ℕ → ℕ → List Span → List Look
said_at who t [] = []
said_at who t (s ∷ ss) = (if covers who t s then s.look ∷ [] else []) ++ said_at who t ss

-- how a task looked when the tasks were last observed up to a time; None if it didn't live then
abbrev pub seen_at : ℕ → ℕ → List Observation → Option Look
seen_at who t [] = None
seen_at who t (m ∷ ms) = if nat_le m.time t then option_map (look_of m.runner) (view_of m.views who) else seen_at who t ms

-- one span says the same look, and no other says anything; no span says anything if there is no look
abbrev pub SaysOnce : Option Look → List Look → Type 0
SaysOnce None said = said ≡ []
SaysOnce (Some look) said = (one : Look) × (said ≡ one ∷ []) × (is_same one look ≡ true)

-- at each time before the end of a run the spans of a task say once how it looked, if it lived, and nothing if it
-- didn't: they tile its life without gap or overlap
abbrev pub TilingLaw : Type 0
TilingLaw = (ms : List Observation) (end who t : ℕ) → AreInOrder ms → last_time ms ≤ end → t < end
    → SaysOnce (seen_at who t ms) (said_at who t (spans_until end ms))

-- the look says that the task runs
abbrev pub says_running : Standing → Bool
says_running Running = true
says_running Ready = false
says_running Waiting = false
says_running Sleeping = false
says_running Suspended = false

-- at each time, spans say of at most one task that it runs
abbrev pub OneRunsLaw : Type 0
OneRunsLaw = (ms : List Observation) (end t one other : ℕ) → AreInOrder ms → last_time ms ≤ end → t < end
    → list_any (λ look. says_running look.standing) (said_at one t (spans_until end ms)) ≡ true
    → list_any (λ look. says_running look.standing) (said_at other t (spans_until end ms)) ≡ true → one ≡ other
