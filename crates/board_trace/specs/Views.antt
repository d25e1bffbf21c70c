-- What a trace keeps of a state until the step after it is made.
use Rattle.std.specs.Prelude.{ℕ, List, [], Option, None, Some, find, ◌==◌}
use Rattle.board_changes.specs.declared.view.TaskView.{TaskView}
use Rattle.board_changes.specs.declared.view.WatchdogView.{WatchdogView}
use Rattle.board_trace.specs.declared.snapshot.Snapshot.{Snapshot}

-- views of the tasks and of the watchdogs, the ids of the modules, and the task that ran last
pub record SnapshotState : Type 0 where
  pub tasks : List TaskView
  pub watchdogs : List WatchdogView
  pub modules : List ℕ
  pub last : Option ℕ

-- a snapshot, as a trace holds it
abbrev pub snapshot_state : Snapshot → SnapshotState
snapshot_state s = record { tasks = s.tasks.items; watchdogs = s.watchdogs.items; modules = s.modules.items; last = s.last }

-- the view of the task with this id
abbrev pub view_of : List TaskView → ℕ → Option TaskView
view_of views id = find (λ v. v.id == id) views

-- the name of the task with this id; none if there is no such task
abbrev pub name_by : Option TaskView → List ℕ
name_by None = []
name_by (Some t) = t.name

abbrev pub name_in : SnapshotState → ℕ → List ℕ
name_in views id = name_by (view_of views.tasks id)
