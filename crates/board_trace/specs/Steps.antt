-- What happens in a step, from what came next and the states before and after it.
use Rattle.std.specs.Prelude.{ℕ, ◌&&◌, not, Bool, true, false, if◌then◌else◌, List, [], ◌∷◌, ◌++◌, map, Option, None, Some, is_some, is_none}
use Rattle.kernel_world.specs.declared.actor.Actor.{Actor}
use Rattle.kernel_world.specs.declared.call.Call.{Call}
use Rattle.kernel_world.specs.declared.reply.Reply.{Reply}
use Rattle.wind_machine.specs.LiveLoadingSaid.{FileSaid}
use Rattle.wind_machine.specs.State.{State}
use Rattle.wind_machine.specs.Replies.{step_reply}
use Rattle.wind_machine.specs.declared.next.Next.{Next}
use Rattle.board_changes.specs.Tasks.{task_changes}
use Rattle.board_changes.specs.Watchdogs.{watchdog_changes}
use Rattle.board_changes.specs.Modules.{module_changes}
use Rattle.board_changes.specs.declared.change.Change.{Change}
use Rattle.board_trace.specs.Before.{before_step}
use Rattle.board_trace.specs.Level.{is_exception, faults, routines}
use Rattle.board_trace.specs.Messages.{messages}
use Rattle.board_trace.specs.Outside.{from_outside, is_hearing, switches}
use Rattle.board_trace.specs.Owners.{owners}
use Rattle.board_trace.specs.Snapshots.{after_step, snapshot_of}
use Rattle.board_trace.specs.Views.{SnapshotState, snapshot_state}
use Rattle.board_trace.specs.declared.moment.BeforeStep.{BeforeStep}
use Rattle.board_trace.specs.declared.moment.AfterStep.{AfterStep}
use Rattle.board_trace.specs.declared.happening.Happening.{Happening}
use Rattle.board_trace.specs.declared.happening.Happening.TheVariants as told
use Rattle.board_trace.specs.declared.step.StepViews.{StepViews}

-- what the step changed of tasks, watchdogs and modules; a step in which bytes arrive gives no results
abbrev pub changes : Next → ℕ → SnapshotState → SnapshotState → List Change
changes n tick before after =
    task_changes (not (is_hearing n)) before.tasks after.tasks
    ++ (watchdog_changes tick before.watchdogs after.watchdogs ++ module_changes before.modules after.modules)

-- the same, of what is read for a step
abbrev pub changes_in : StepViews → List Change
changes_in v = changes v.before_step.now.next v.after_step.now.tick (snapshot_state v.before.now) (snapshot_state v.after.now)

-- the call with its words and its reply
abbrev pub called : Option Actor → Option Call → Option Reply → List Happening
called (Some who) (Some c) (Some r) = told.Called who c r ∷ []
called who c r = []

-- a step wrote something
abbrev pub has_written : List ℕ → Bool
has_written [] = false
has_written (b ∷ bs) = true

-- what the step wrote
abbrev pub writes : Option Actor → List ℕ → List Happening
writes who [] = []
writes who (b ∷ bs) = told.Writes who (b ∷ bs) ∷ []

-- the step is one instruction, without an exception: a task or routine at no gate wrote nothing
abbrev pub is_instruction : BeforeStep → List ℕ → Bool
is_instruction c written = is_some c.at && (is_none c.gate && not (has_written written))

-- one instruction of a task or routine
abbrev pub instruction_of : Option Actor → List Happening
instruction_of None = []
instruction_of (Some who) = told.Instructions who 1 ∷ []

-- what makes a step and how it goes: what comes from outside, who runs, the call and its reply, exceptions and aborts
abbrev pub causes : BeforeStep → SnapshotState → SnapshotState → AfterStep → List ℕ → List Happening
causes c before after r written =
    from_outside c.next c r
    ++ (switches before.last after.last
    ++ (called c.actor c.call r.reply
    ++ faults c r written (is_exception c (has_written written))))

-- the same, of what is read for a step
abbrev pub causes_in : StepViews → List Happening
causes_in v = causes v.before_step.now (snapshot_state v.before.now) (snapshot_state v.after.now) v.after_step.now v.written.now

-- what a step leads to: owners, messages, what changed, routines, and what was written
abbrev pub effects : BeforeStep → SnapshotState → SnapshotState → AfterStep → List ℕ → List Happening
effects c before after r written =
    owners c r
    ++ (messages c r.reply (changes c.next r.tick before after)
    ++ (map told.Changed (changes c.next r.tick before after)
    ++ (routines c r (has_written written)
    ++ writes c.actor written)))

-- the same, of what is read for a step
abbrev pub effects_in : StepViews → List Happening
effects_in v = effects v.before_step.now (snapshot_state v.before.now) (snapshot_state v.after.now) v.after_step.now v.written.now

-- all that happens in a step that isn't one instruction, in this order
abbrev pub step_happenings : BeforeStep → SnapshotState → SnapshotState → AfterStep → List ℕ → List Happening
step_happenings c before after r written = causes c before after r written ++ effects c before after r written

-- an instruction tells who runs and that it was made
abbrev pub happenings_from : BeforeStep → SnapshotState → SnapshotState → AfterStep → List ℕ → List Happening
happenings_from c before after r written =
    if is_instruction c written then switches before.last after.last ++ instruction_of c.actor
    else step_happenings c before after r written

-- what happens in the step from one state to the next, given what was said of the file that it needs
unfoldable pub happenings : FileSaid → State → State → List Happening
happenings said s t =
    happenings_from (before_step s) (snapshot_of s.world) (snapshot_of t.world) (after_step (before_step s) (step_reply said s) t) t.world.output
