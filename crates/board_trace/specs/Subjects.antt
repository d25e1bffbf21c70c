-- Who a happening is told of.
use Rattle.std.specs.Prelude.{ℕ, Bool, true, false, if◌then◌else◌, List, [], Option, None, Some}
use Rattle.kernel_world.specs.declared.actor.Actor.{Actor}
use Rattle.kernel_world.specs.declared.actor.Actor.TheVariants.{Task as by_task, Interrupt}
use Rattle.board_changes.specs.declared.change.Change.{Change}
use Rattle.board_changes.specs.declared.change.Change.TheVariants as changes
use Rattle.board_trace.specs.Views.{SnapshotState, name_in}
use Rattle.board_trace.specs.declared.happening.Happening.{Happening}
use Rattle.board_trace.specs.declared.happening.Happening.TheVariants as told
use Rattle.board_trace.specs.declared.who.Subject.{Subject}
use Rattle.board_trace.specs.declared.who.Subject.TheVariants as subjects

-- a task or the interrupt level
abbrev pub subject_actor : Actor → Subject
subject_actor (by_task who) = subjects.Task who
subject_actor Interrupt = subjects.Interrupt

-- changes of tasks are told of the task, others of the board
abbrev pub subject_change : Change → Subject
subject_change (changes.Spawned who pri) = subjects.Task who
subject_change (changes.Deleted who) = subjects.Task who
subject_change (changes.Waits who object until) = subjects.Task who
subject_change (changes.Sleeps who until) = subjects.Task who
subject_change (changes.Served who object answer) = subjects.Task who
subject_change (changes.Failed who object errno) = subjects.Task who
subject_change (changes.GoesOn who object) = subjects.Task who
subject_change (changes.Wakes who) = subjects.Task who
subject_change (changes.Suspended who) = subjects.Task who
subject_change (changes.Resumed who) = subjects.Task who
subject_change (changes.Priority who from to inherited) = subjects.Task who
subject_change (changes.Normal who to) = subjects.Task who
subject_change (changes.Yields who) = subjects.Task who
subject_change (changes.Started watchdog due) = subjects.Board
subject_change (changes.Fired watchdog) = subjects.Board
subject_change (changes.Cancelled watchdog) = subjects.Board
subject_change (changes.Loaded id) = subjects.Board
subject_change (changes.Unloaded id) = subjects.Board

-- what was written is told of who made the step, else of the board
abbrev pub subject_writer : Option Actor → Subject
subject_writer None = subjects.Board
subject_writer (Some who) = subject_actor who

abbrev pub subject_of : Happening → Subject
subject_of (told.Tick tick) = subjects.Board
subject_of (told.Arrival count) = subjects.Board
subject_of (told.Interrupt slot) = subjects.Board
subject_of (told.Delivery slot) = subjects.Board
subject_of (told.Jump time) = subjects.Board
subject_of (told.File name) = subjects.Task 1
subject_of (told.Runs who last) = subjects.Task who
subject_of (told.Called who call reply) = subject_actor who
subject_of (told.Exception who at cause) = subject_actor who
subject_of told.Abort = subjects.Task 1
subject_of (told.Owned mutex owner) = subjects.Task owner
subject_of (told.Freed mutex owner) = subjects.Task owner
subject_of (told.Queued queue sender) = subject_actor sender
subject_of (told.HandedOver queue sender receiver) = subject_actor sender
subject_of (told.Taken queue receiver) = subject_actor receiver
subject_of (told.Changed change) = subject_change change
subject_of told.RoutineEnds = subjects.Interrupt
subject_of (told.RoutineBegins entry param) = subjects.Interrupt
subject_of (told.Writes who bytes) = subject_writer who
subject_of (told.Instructions who count) = subject_actor who

-- the task that something happens to is new
abbrev pub is_new : Happening → Bool
is_new (told.Changed (changes.Spawned who pri)) = true
is_new h = false

-- the name of the subject, if it is a task of this snapshot
abbrev pub name_of : SnapshotState → Subject → List ℕ
name_of views (subjects.Task id) = name_in views id
name_of views subjects.Board = []
name_of views subjects.Interrupt = []

-- the name of the task that something happens to, before the step; a new task's name after it
abbrev pub subject_name : SnapshotState → SnapshotState → Happening → List ℕ
subject_name before after h = name_of (if is_new h then after else before) (subject_of h)
