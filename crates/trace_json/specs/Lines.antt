-- The lines of a run as JSON.
use Rattle.std.specs.Prelude.{ℕ, List, [], ◌∷◌, ◌++◌, codes}
use Rattle.serde_json.specs.Data.{Data, string}
use Rattle.board_changes.specs.declared.view.TaskView.{TaskView}
use Rattle.board_trace.specs.Runs.{Line}
use Rattle.board_trace.specs.Subjects.{subject_of}
use Rattle.board_trace.specs.declared.who.Subject.{Subject}
use Rattle.board_trace.specs.declared.who.Subject.TheVariants as subjects
use Rattle.trace_text.specs.Forms.{OutcomeState}
use Rattle.trace_state.specs.Board.{time_shown}
use Rattle.trace_state.specs.Json.{list_of, number_of, number_or_null, object_of, text_of}
use Rattle.trace_state.specs.Tasks.{wait_data}
use Rattle.trace_json.specs.Happenings.{event_members, event_word}
use Rattle.serde_json.specs.Data.{boolean}

-- board time when the step begins, the number of the step, and the word for what happens
abbrev pub head_members : ℕ → ℕ → List ℕ → List (List ℕ × Data)
head_members time step event = (codes "time", number_of (time_shown time)) ∷ (codes "step", number_of step) ∷ (codes "event", string event) ∷ []

-- who it happens to; a task with its id and its name
abbrev pub subject_members : Subject → List ℕ → List (List ℕ × Data)
subject_members subjects.Board name = (codes "who", string (codes "board")) ∷ []
subject_members subjects.Interrupt name = (codes "who", string (codes "interrupt")) ∷ []
subject_members (subjects.Task id) name = (codes "who", string (codes "task")) ∷ (codes "task", number_of id) ∷ (codes "name", text_of name) ∷ []

-- a line
unfoldable pub line_data : Line → Data
line_data l = object_of (head_members l.time l.step (event_word l.what) ++ (subject_members (subject_of l.what) l.name ++ event_members l.what))

-- a task when the run has ended: what it waits for, the tick at which its delay or its wait ends, and whether it is suspended
abbrev pub standing_data : TaskView → Data
standing_data t = object_of (
    (codes "task", number_of t.id)
    ∷ (codes "name", text_of t.name)
    ∷ (codes "wait", wait_data t.wait)
    ∷ (codes "until", number_or_null t.wake)
    ∷ (codes "suspended", boolean t.suspended)
    ∷ [])

-- the end of a run: how it ended, the tasks, and how many bytes of the console file haven't arrived
unfoldable pub end_data : OutcomeState → Data
end_data e = object_of (
    head_members e.time e.step (codes "end")
    ++ ((codes "how", text_of e.how) ∷ (codes "tasks", list_of standing_data e.tasks) ∷ (codes "left", number_of e.left) ∷ []))
