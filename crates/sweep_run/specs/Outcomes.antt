-- The outcome of a run.
use Rattle.std.specs.Prelude.{◌≡◌, ℕ, Bool, true, false, List, [], ◌++◌, Option, None, Some, codes}
use Rattle.std.specs.List.{flat_map}
use Rattle.std.specs.Fmt.{decimal}
use Rattle.board_changes.specs.declared.awaited.Awaited.{Awaited}
use Rattle.board_changes.specs.declared.view.TaskView.{TaskView}
use Rattle.board_trace.specs.Snapshots.{snapshot_of}
use Rattle.trace_text.specs.Changes.{awaited_text}
use Rattle.trace_text.specs.Ending.{suspended_text}
use Rattle.trace_text.specs.Pieces.{escaped}
use Rattle.tick_file.specs.Schedule.{Timetable}
use Rattle.kept_files.specs.Kept.{Kept}
use Rattle.again.specs.Libraries.{Library}
use Rattle.again.specs.Reaching.{Agrees}
use Rattle.sweep_run.specs.Marks.{marked_text}
use Rattle.sweep_run.specs.Runs.{Ended, StartState, run_of}
use Rattle.sweep_run.specs.declared.finish.Finish.{Finish}
use Rattle.sweep_run.specs.declared.finish.Finish.TheVariants.{NoStepLeft, LimitReached}

-- how a run ended
abbrev pub how_text : Finish → List ℕ
how_text NoStepLeft = codes "no step is left"
how_text LimitReached = codes "the limit of steps is reached"

-- what a task does: it waits, sleeps, is suspended, or is ready
abbrev pub state_text : Option Awaited → Option ℕ → Bool → List ℕ
state_text (Some object) wake suspended = codes " waits for " ++ awaited_text object
state_text None (Some tick) suspended = codes " sleeps"
state_text None None true = []
state_text None None false = codes " is ready"

-- a task and what it does
abbrev pub standing_text : TaskView → List ℕ
standing_text t = codes "; " ++ (decimal t.id ++ (codes " " ++ (escaped t.name ++ (state_text t.wait t.wake t.suspended ++ suspended_text t.suspended))))

-- the outcome of a run: how it ended, what each task does, and the marked lines of what it wrote
abbrev pub outcome_text : List (List ℕ) → Ended → List ℕ
outcome_text marks ended = how_text ended.finish ++ (flat_map standing_text (snapshot_of ended.state.world).tasks ++ marked_text marks ended.written)

-- the outcome of the run with these events, if each module has this answer
abbrev pub outcome_of : Library → StartState → Timetable → List ℕ
outcome_of library start events = outcome_text start.marks (run_of library start events)

-- this is that outcome, whatever the answers about modules are that no run has asked for yet
abbrev pub IsOutcome : StartState → Kept → Timetable → List ℕ → Type 0
IsOutcome start kept events text = (library : Library) → Agrees start.modules kept library → text ≡ outcome_of library start events
