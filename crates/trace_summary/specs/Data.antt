-- The summary of a run as JSON.
use Rattle.std.specs.Prelude.{ℕ, List, [], ◌∷◌, ◌++◌, Option, None, Some, codes}
use Rattle.serde_json.specs.Data.{Data, null, string}
use Rattle.board_changes.specs.declared.awaited.Awaited.{Awaited}
use Rattle.trace_state.specs.Board.{time_shown}
use Rattle.trace_state.specs.Json.{list_of, number_of, number_or_null, object_of, text_of}
use Rattle.trace_state.specs.Tasks.{wait_data}
use Rattle.trace_summary.specs.Figures.{share}
use Rattle.trace_summary.specs.Holds.{hold_length}
use Rattle.trace_summary.specs.Stretches.{length_of}
use Rattle.trace_summary.specs.Summaries.{SummaryState}
use Rattle.trace_summary.specs.declared.counts.TaskCounts.{TaskCounts}
use Rattle.trace_summary.specs.declared.hold.Hold.{Hold}
use Rattle.trace_summary.specs.declared.summary.TaskSummary.{TaskSummary}
use Rattle.trace_summary.specs.declared.stretch.Stretch.{Stretch}
use Rattle.trace_summary.specs.declared.times.TaskTimes.{TaskTimes}
use Rattle.trace_summary.specs.declared.usage.ObjectKind.{ObjectKind}
use Rattle.trace_summary.specs.declared.usage.ObjectKind.TheVariants as kinds
use Rattle.trace_summary.specs.declared.usage.Usage.{Usage}

-- the steps of a task, of all steps, and its share in them
abbrev pub step_members : ℕ → TaskCounts → List (List ℕ × Data)
step_members all c = (codes "steps", number_of c.steps) ∷ (codes "share", number_of (share c.steps all)) ∷ (codes "switches", number_of c.switches) ∷ []

-- its calls and exceptions
abbrev pub call_members : TaskCounts → List (List ℕ × Data)
call_members c =
    (codes "calls", number_of c.calls) ∷ (codes "refusals", number_of c.refusals) ∷ (codes "exceptions", number_of c.exceptions) ∷ []

-- a stretch of time: when it begins and how long it is; null if there is none
abbrev pub stretch_data : Option Stretch → Data
stretch_data None = null
stretch_data (Some s) = object_of ((codes "from", number_of (time_shown s.from)) ∷ (codes "time", number_of (time_shown (length_of s))) ∷ [])

-- what the task waits for in it
abbrev pub object_in : Option Stretch → Option Awaited
object_in None = None
object_in (Some s) = s.object

-- its longest wait
abbrev pub wait_members : Option Stretch → List (List ℕ × Data)
wait_members wait = (codes "longest_wait", stretch_data wait) ∷ (codes "waited_for", wait_data (object_in wait)) ∷ []

-- its other longest times
abbrev pub time_members : TaskTimes → List (List ℕ × Data)
time_members t =
    (codes "longest_ready", stretch_data t.ready)
    ∷ (codes "longest_response", number_of (time_shown t.response))
    ∷ (codes "longest_inherited", stretch_data t.inherited)
    ∷ []

-- what was counted of it, and its longest times
abbrev pub count_members : ℕ → TaskCounts → List (List ℕ × Data)
count_members all c = step_members all c ++ call_members c

abbrev pub longest_members : TaskTimes → List (List ℕ × Data)
longest_members t = wait_members t.wait ++ time_members t

-- a task, of all steps
abbrev pub task_data : ℕ → TaskSummary → Data
task_data all t =
    object_of (((codes "id", number_of t.id) ∷ (codes "name", text_of t.name) ∷ []) ++ (count_members all t.counts ++ longest_members t.times))

-- the run
abbrev pub run_members : SummaryState → List (List ℕ × Data)
run_members s =
    (codes "time", number_of (time_shown s.time))
    ∷ (codes "steps", number_of s.steps)
    ∷ (codes "ticks", number_of s.ticks)
    ∷ (codes "calls", number_of s.calls)
    ∷ (codes "idle", number_of s.idle)
    ∷ []

-- ---- objects
-- the word for a kind of object
abbrev pub kind_word : ObjectKind → List ℕ
kind_word kinds.Mutex = codes "mutex"
kind_word kinds.Queue = codes "queue"
kind_word kinds.Slot = codes "slot"

-- a hold of a mutex: when it begins and how long it is; null if there is none
abbrev pub hold_data : Option Hold → Data
hold_data None = null
hold_data (Some h) = object_of ((codes "from", number_of (time_shown h.from)) ∷ (codes "time", number_of (time_shown (hold_length h))) ∷ [])

-- the task that holds it
abbrev pub holder : Option Hold → Option ℕ
holder None = None
holder (Some h) = Some h.owner

-- the longest hold of a mutex, and by which task; other objects have none
abbrev pub hold_members : ObjectKind → Option Hold → List (List ℕ × Data)
hold_members kinds.Mutex longest = (codes "longest_hold", hold_data longest) ∷ (codes "held_by", number_or_null (holder longest)) ∷ []
hold_members kinds.Queue longest = []
hold_members kinds.Slot longest = []

-- what came to an object and left it
abbrev pub move_members : Usage → List (List ℕ × Data)
move_members u =
    (codes "object", string (kind_word u.object.kind))
    ∷ (codes "id", number_of u.object.id)
    ∷ (codes "in", number_of u.entries)
    ∷ (codes "out", number_of u.exits)
    ∷ (codes "most", number_of u.most)
    ∷ []

-- how an object was used
abbrev pub usage_data : Usage → Data
usage_data u = object_of (move_members u ++ hold_members u.object.kind u.longest)

-- ---- the summary
-- the run, its tasks and its objects
abbrev pub summary_data : SummaryState → Data
summary_data s =
    object_of (run_members s ++ ((codes "tasks", list_of (task_data s.steps) s.tasks) ∷ (codes "objects", list_of usage_data s.uses) ∷ []))
