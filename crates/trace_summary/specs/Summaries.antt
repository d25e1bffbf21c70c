-- The summary of a run, from the tasks that live at its start, its lines and its spans. Lists of lines are the newest first.
use Rattle.std.specs.Prelude.{ℕ, ◌==◌, if◌then◌else◌, List, [], ◌∷◌, ◌++◌, map}
use Rattle.std.specs.List.{list_any}
use Rattle.board_changes.specs.declared.view.TaskView.{TaskView}
use Rattle.board_trace.specs.Runs.{Line}
use Rattle.board_trace.specs.Subjects.{subject_of}
use Rattle.board_trace.specs.declared.who.Subject.{Subject}
use Rattle.board_trace.specs.declared.who.Subject.TheVariants as subjects
use Rattle.trace_summary.specs.Figures.{calls_in, counts_of, idle_in, ticks_in, total}
use Rattle.trace_summary.specs.Times.{SpanLists, times_of}
use Rattle.trace_summary.specs.Usage.{closed, usages}
use Rattle.trace_summary.specs.declared.summary.Summary.{Summary}
use Rattle.trace_summary.specs.declared.summary.TaskSummary.{TaskSummary}
use Rattle.trace_summary.specs.declared.tally.Tally.{Tally}
use Rattle.trace_summary.specs.declared.tally.TaskTally.{TaskTally}
use Rattle.trace_summary.specs.declared.usage.Usage.{Usage}

-- ---- the tasks of a run
-- a task, by its id and name
pub record Known : Type 0 where
  pub id : ℕ
  pub name : List ℕ

-- adds a task, unless it is among these
abbrev pub with_known : ℕ → List ℕ → List Known → List Known
with_known id name ts = if list_any (λ t. t.id == id) ts then ts else ts ++ record { id = id; name = name } ∷ []

-- adds the task that a line tells of
abbrev pub with_subject : Subject → List ℕ → List Known → List Known
with_subject (subjects.Task id) name ts = with_known id name ts
with_subject subjects.Board name ts = ts
with_subject subjects.Interrupt name ts = ts

-- adds the tasks of these views
abbrev pub with_views : List TaskView → List Known → List Known
with_views [] ts = ts
with_views (v ∷ vs) ts = with_views vs (with_known v.id v.name ts)

-- the tasks that live at the start, and each other that a line tells of, in the order in which they appear
abbrev pub tasks_in : List TaskView → List Line → List Known
tasks_in views [] = with_views views []
tasks_in views (l ∷ older) = with_subject (subject_of l.what) l.name (tasks_in views older)

-- ---- the summary
-- a task with its figures of these lines and spans
abbrev pub summary_of_task : List Line → SpanLists → Known → TaskSummary
summary_of_task lines spans t = record { id = t.id; name = t.name; counts = counts_of lines t.id; times = times_of spans t.id }

-- board time and steps at the end, ticks, calls, how long nobody ran, the tasks with their figures, and how objects were used
pub record SummaryState : Type 0 where
  pub time : ℕ
  pub steps : ℕ
  pub ticks : ℕ
  pub calls : ℕ
  pub idle : ℕ
  pub tasks : List TaskSummary
  pub uses : List Usage

-- a summary as plain data
abbrev pub summary_state : Summary → SummaryState
summary_state s = record { time = s.time; steps = s.steps; ticks = s.ticks; calls = s.calls; idle = s.idle; tasks = s.tasks.items; uses = s.uses.items }

-- the summary of a run that begins with these tasks, has these lines and spans and ends at this time after these steps
abbrev pub summary_of : List TaskView → List Line → SpanLists → ℕ → ℕ → SummaryState
summary_of views lines spans time steps = record {
  time = time;
  steps = steps;
  ticks = total (λ l. ticks_in l.what) lines;
  calls = total (λ l. calls_in l.what) lines;
  idle = total (λ l. idle_in l.time l.what) lines;
  tasks = map (summary_of_task lines spans) (tasks_in views lines);
  uses = map (closed time) (usages lines);
}

-- ---- a run under way
-- a task with its figures of these lines
abbrev pub tally_of_task : List Line → Known → TaskTally
tally_of_task lines t = record { id = t.id; name = t.name; counts = counts_of lines t.id }

-- the figures of lines
pub record TallyState : Type 0 where
  pub ticks : ℕ
  pub calls : ℕ
  pub idle : ℕ
  pub tasks : List TaskTally
  pub uses : List Usage

abbrev pub tally_state : Tally → TallyState
tally_state t = record { ticks = t.ticks; calls = t.calls; idle = t.idle; tasks = t.tasks.items; uses = t.uses.items }

abbrev pub tally_of : List TaskView → List Line → TallyState
tally_of views lines = record {
  ticks = total (λ l. ticks_in l.what) lines;
  calls = total (λ l. calls_in l.what) lines;
  idle = total (λ l. idle_in l.time l.what) lines;
  tasks = map (tally_of_task lines) (tasks_in views lines);
  uses = usages lines;
}
