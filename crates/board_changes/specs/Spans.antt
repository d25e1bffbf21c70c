-- The spans of a run: for each task the times from and to which it has the same look.
use Rattle.std.specs.Prelude.{ℕ, ◌==◌, ◌&&◌, Bool, true, false, nat_lt, if◌then◌else◌, List, [], ◌∷◌, ◌++◌, map, Option, None, Some, find}
use Rattle.board_changes.specs.declared.view.TaskView.{TaskView}
use Rattle.board_changes.specs.Looks.{look_of, is_same}
use Rattle.board_changes.specs.declared.look.Look.{Look}
use Rattle.board_changes.specs.declared.spans.Open.{Open}
use Rattle.board_changes.specs.declared.spans.Span.{Span}

-- the spans that go on, one for each live task, and those that have ended, in the order in which they end
pub record SpanState : Type 0 where
  pub going : List Open
  pub done : List Span

-- the task of a span that goes on
abbrev pub open_task : Open → ℕ
open_task o = o.who

-- the span of this task that goes on
abbrev pub going_of : List Open → ℕ → Option Open
going_of going who = find (λ o. o.who == who) going

-- a new span begins
abbrev pub opened : ℕ → ℕ → Look → Open
opened who time look = record { who = who; look = look; from = time }

-- the span of a task goes on if its look is the same as before; else a new one begins
abbrev pub goes_on : Option Open → ℕ → ℕ → Look → Open
goes_on None who time look = opened who time look
goes_on (Some o) who time look = if is_same o.look look then o else opened who time look

-- the span of a task after a moment
abbrev pub going_after : List Open → ℕ → Option ℕ → TaskView → Open
going_after going time runner t = goes_on (going_of going t.id) t.id time (look_of runner t)

-- a span goes on with this view: it is of the same task, which looks the same
abbrev pub is_kept : Option ℕ → Open → TaskView → Bool
is_kept runner o t = o.who == t.id && is_same o.look (look_of runner t)

-- every span goes on, and no other begins: the tasks are the same, by ids that rise above a number, and look the same
abbrev pub all_kept : Option ℕ → ℕ → List Open → List TaskView → Bool
all_kept runner low [] [] = true
all_kept runner low [] (t ∷ ts) = false
all_kept runner low (o ∷ os) [] = false
all_kept runner low (o ∷ os) (t ∷ ts) = nat_lt low o.who && (is_kept runner o t && all_kept runner o.who os ts)

-- a span has ended at this time; one of no time is left out
abbrev pub ended : Open → ℕ → List Span
ended o time = if nat_lt o.from time then record { who = o.who; look = o.look; from = o.from; to = time } ∷ [] else []

-- the view of this task
abbrev pub view_of : List TaskView → ℕ → Option TaskView
view_of views who = find (λ v. v.id == who) views

-- what ends at this moment: a span of a task that is gone or has another look
abbrev pub ends : Option TaskView → Option ℕ → ℕ → Open → List Span
ends None runner time o = ended o time
ends (Some t) runner time o = if is_same o.look (look_of runner t) then [] else ended o time

abbrev pub all_ends : List TaskView → Option ℕ → ℕ → List Open → List Span
all_ends views runner time [] = []
all_ends views runner time (o ∷ os) = ends (view_of views o.who) runner time o ++ all_ends views runner time os

-- the spans after a moment: its time, the views of the live tasks, and which task runs
abbrev pub observed : SpanState → ℕ → List TaskView → Option ℕ → SpanState
observed s time views runner = record {
  going = map (going_after s.going time runner) views;
  done = s.done ++ all_ends views runner time s.going;
}

-- every span ends
abbrev pub all_ended : ℕ → List Open → List Span
all_ended time [] = []
all_ended time (o ∷ os) = ended o time ++ all_ended time os

-- the spans after the last moment
abbrev pub closed : SpanState → ℕ → SpanState
closed s time = record { going = []; done = s.done ++ all_ended time s.going }
