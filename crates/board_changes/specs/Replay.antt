-- The lines of a step give a task's life after it.
use Rattle.std.specs.Prelude.{◌≡◌, ℕ, Bool, true, false, if◌then◌else◌, List, [], ◌∷◌, Option, None, Some}
use Rattle.std.specs.Option.{option_map}
use Rattle.board_changes.specs.declared.awaited.Awaited.{Awaited}
use Rattle.board_changes.specs.declared.change.Change.{Change}
use Rattle.board_changes.specs.declared.change.Change.TheVariants as changes
use Rattle.board_changes.specs.declared.view.TaskView.{TaskView}
use Rattle.board_changes.specs.Looks.{is_runner}
use Rattle.board_changes.specs.Spans.{view_of}
use Rattle.board_changes.specs.Tasks.{task_changes}
use Rattle.board_changes.specs.Tiling.{AreDistinct}

-- the life of a task: its wait, its wake, whether it is suspended, its priority and its normal priority
pub record Life : Type 0 where
  pub wait : Option Awaited
  pub wake : Option ℕ
  pub suspended : Bool
  pub pri : ℕ
  pub normal : ℕ

abbrev pub life_of : TaskView → Life
life_of t = record { wait = t.wait; wake = t.wake; suspended = t.suspended; pri = t.pri; normal = t.normal }

-- the life of a new task
abbrev pub new_life : ℕ → Life
new_life pri = record { wait = None; wake = None; suspended = false; pri = pri; normal = pri }

-- the task that a change names
abbrev pub task_of : Change → Option ℕ
task_of (changes.Spawned who pri) = Some who
task_of (changes.Deleted who) = Some who
task_of (changes.Waits who object until) = Some who
task_of (changes.Sleeps who until) = Some who
task_of (changes.Served who object answer) = Some who
task_of (changes.Failed who object errno) = Some who
task_of (changes.GoesOn who object) = Some who
task_of (changes.Wakes who) = Some who
task_of (changes.Suspended who) = Some who
task_of (changes.Resumed who) = Some who
task_of (changes.Priority who from to inherited) = Some who
task_of (changes.Normal who to) = Some who
task_of (changes.Yields who) = Some who
task_of (changes.Started watchdog due) = None
task_of (changes.Fired watchdog) = None
task_of (changes.Cancelled watchdog) = None
task_of (changes.Loaded id) = None
task_of (changes.Unloaded id) = None

-- the changes that name this task
abbrev pub changes_naming : ℕ → List Change → List Change
changes_naming who [] = []
changes_naming who (c ∷ cs) = if is_runner (task_of c) who then c ∷ changes_naming who cs else changes_naming who cs

-- a life after a change
abbrev pub changed : Change → Life → Life
changed (changes.Waits who object until) l = record l { wait = Some object; wake = until }
changed (changes.Sleeps who until) l = record l { wake = Some until }
changed (changes.Served who object answer) l = record l { wait = None; wake = None }
changed (changes.Failed who object errno) l = record l { wait = None; wake = None }
changed (changes.GoesOn who object) l = record l { wait = None; wake = None }
changed (changes.Wakes who) l = record l { wake = None }
changed (changes.Suspended who) l = record l { suspended = true }
changed (changes.Resumed who) l = record l { suspended = false }
changed (changes.Priority who from to inherited) l = record l { pri = to; normal = if inherited then l.normal else to }
changed (changes.Normal who to) l = record l { normal = to }
changed c l = l

-- a spawn begins a life, a deletion ends it, and another change changes it
abbrev pub lives_on : Change → Option Life → Option Life
lives_on (changes.Spawned who pri) life = Some (new_life pri)
lives_on (changes.Deleted who) life = None
lives_on c life = option_map (changed c) life

-- a life after changes, one after another
abbrev pub replayed : List Change → Option Life → Option Life
replayed [] life = life
replayed (c ∷ cs) life = replayed cs (lives_on c life)

-- a task's life before a step and the changes that name the task give its life after the step, so nothing happens to a
-- task without a line
abbrev pub ReplayLaw : Type 0
ReplayLaw = (results : Bool) (before after : List TaskView) (who : ℕ) → AreDistinct before → AreDistinct after
    → replayed (changes_naming who (task_changes results before after)) (option_map life_of (view_of before who)) ≡ option_map life_of (view_of after who)
