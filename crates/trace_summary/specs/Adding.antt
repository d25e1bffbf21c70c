-- What one line adds to the figures of a task.
use Rattle.std.specs.Prelude.{ℕ, ◌+◌, ◌-◌, ◌^◌, ◌==◌, ◌&&◌, min, not, Bool, true, if◌then◌else◌, List, [], ◌∷◌, ◌++◌, map}
use Rattle.std.specs.List.{list_any}
use Rattle.board_changes.specs.declared.view.TaskView.{TaskView}
use Rattle.board_trace.specs.declared.happening.Happening.{Happening}
use Rattle.board_trace.specs.declared.who.Subject.{Subject}
use Rattle.board_trace.specs.declared.who.Subject.TheVariants as subjects
use Rattle.trace_summary.specs.Figures.{calls_in, exceptions_in, refusals_in, steps_in, switches_in}
use Rattle.trace_summary.specs.Times.{SpanLists, times_of}
use Rattle.trace_summary.specs.declared.counts.TaskCounts.{TaskCounts}
use Rattle.trace_summary.specs.declared.summary.TaskSummary.{TaskSummary}
use Rattle.trace_summary.specs.declared.tally.TaskTally.{TaskTally}

-- ---- the figures of a task
-- nothing was counted
abbrev pub none : TaskCounts
none = record { steps = 0; switches = 0; calls = 0; refusals = 0; exceptions = 0 }

-- what a happening adds for the task that it is told of
abbrev pub counts_in : Happening → TaskCounts
counts_in h = record { steps = steps_in h; switches = switches_in h; calls = calls_in h; refusals = refusals_in h; exceptions = exceptions_in h }

-- the sum of two numbers, at most 2^64 - 1
abbrev pub sum_of : ℕ → ℕ → ℕ
sum_of m n = min (m + n) (2 ^ 64 - 1)

abbrev pub plus : TaskCounts → TaskCounts → TaskCounts
plus c more = record {
  steps = sum_of c.steps more.steps;
  switches = sum_of c.switches more.switches;
  calls = sum_of c.calls more.calls;
  refusals = sum_of c.refusals more.refusals;
  exceptions = sum_of c.exceptions more.exceptions;
}

-- ---- tasks
-- adds a task, unless it is among these
abbrev pub with_task : ℕ → List ℕ → List TaskTally → List TaskTally
with_task id name ts = if list_any (λ t. t.id == id) ts then ts else ts ++ record { id = id; name = name; counts = none } ∷ []

-- no two tasks have the same id
abbrev pub are_distinct : List TaskTally → Bool
are_distinct [] = true
are_distinct (t ∷ ts) = not (list_any (λ other. other.id == t.id) ts) && are_distinct ts

abbrev pub tally_id : TaskTally → ℕ
tally_id t = t.id

-- adds the tasks that live when the run begins
abbrev pub with_opening : List TaskView → List TaskTally → List TaskTally
with_opening [] ts = ts
with_opening (v ∷ vs) ts = with_opening vs (with_task v.id v.name ts)

-- adds these numbers if it is the task with this id
abbrev pub added : ℕ → TaskCounts → TaskTally → TaskTally
added id more t = if id == t.id then record t { counts = plus t.counts more } else t

-- adds them to those of the task that a line tells of
abbrev pub with_counts : Subject → List ℕ → TaskCounts → List TaskTally → List TaskTally
with_counts (subjects.Task id) name more ts = map (added id more) (with_task id name ts)
with_counts subjects.Board name more ts = ts
with_counts subjects.Interrupt name more ts = ts

-- a task with its longest times
abbrev pub timed : SpanLists → TaskTally → TaskSummary
timed spans t = record { id = t.id; name = t.name; counts = t.counts; times = times_of spans t.id }
