-- What a step changes of tasks, from the views before and after it.
use Rattle.std.specs.Prelude.{ℕ, Bool, true, false, ◌==◌, ◌&&◌, ◌||◌, not, nat_lt, if◌then◌else◌, List, [], ◌∷◌, ◌++◌, Option, None, Some, is_none}
use Rattle.wind_base.specs.Limits.{error_word}
use Rattle.id_table.specs.Records.{of_id}
use Rattle.board_changes.specs.Looks.{same_flag}
use Rattle.board_changes.specs.Views.{task_id}
use Rattle.board_changes.specs.declared.awaited.Awaited.{Awaited}
use Rattle.board_changes.specs.declared.awaited.Awaited.TheVariants as awaited
use Rattle.board_changes.specs.declared.view.TaskView.{TaskView}
use Rattle.board_changes.specs.declared.change.Change.{Change}
use Rattle.board_changes.specs.declared.change.Change.TheVariants as changes

-- the view of the task with this id
abbrev pub found : List TaskView → ℕ → Option TaskView
found views id = of_id task_id views id

-- ---- waits and sleeps
-- a task begins to wait for something
abbrev pub begins : TaskView → Awaited → Change
begins t object = changes.Waits t.id object t.wake

-- the end of such a wait gives the task's call a result: all but those for a deletion and for the console do
abbrev pub has_result : Awaited → Bool
has_result (awaited.Semaphore id) = true
has_result (awaited.Mutex id) = true
has_result (awaited.Receiving id) = true
has_result (awaited.Sending id) = true
has_result (awaited.Deletion id) = false
has_result awaited.Console = false

-- a task's wait ends: with ERROR and an error number, with another result, or without a result
abbrev pub ends : Bool → TaskView → Awaited → Change
ends results t object =
    if results && has_result object then (if t.answer == error_word then changes.Failed t.id object t.errno else changes.Served t.id object t.answer)
    else changes.GoesOn t.id object

-- a task begins to sleep until a tick, or its sleep ends
abbrev pub sleep_changes : ℕ → Option ℕ → Option ℕ → List Change
sleep_changes who None None = []
sleep_changes who None (Some tick) = changes.Sleeps who tick ∷ []
sleep_changes who (Some old) None = changes.Wakes who ∷ []
sleep_changes who (Some old) (Some tick) = if old == tick then [] else changes.Sleeps who tick ∷ []

-- the kinds of waits have different numbers
abbrev pub kind_of : Awaited → ℕ
kind_of (awaited.Semaphore id) = 0
kind_of (awaited.Mutex id) = 1
kind_of (awaited.Receiving id) = 2
kind_of (awaited.Sending id) = 3
kind_of (awaited.Deletion id) = 4
kind_of awaited.Console = 5

-- the id of what is waited for; 0 for the console
abbrev pub id_of : Awaited → ℕ
id_of (awaited.Semaphore id) = id
id_of (awaited.Mutex id) = id
id_of (awaited.Receiving id) = id
id_of (awaited.Sending id) = id
id_of (awaited.Deletion id) = id
id_of awaited.Console = 0

-- two tasks wait for the same
abbrev pub same_awaited : Awaited → Awaited → Bool
same_awaited object other = kind_of object == kind_of other && id_of object == id_of other

-- two tasks wait for the same, or neither waits
abbrev pub same_wait : Option Awaited → Option Awaited → Bool
same_wait None None = true
same_wait (Some object) (Some other) = same_awaited object other
same_wait None (Some other) = false
same_wait (Some object) None = false

-- two ticks are the same, or both are none
abbrev pub same_tick : Option ℕ → Option ℕ → Bool
same_tick None None = true
same_tick (Some a) (Some b) = a == b
same_tick None (Some b) = false
same_tick (Some a) None = false

-- a wait for one thing ends, and one for another begins
abbrev pub other_wait : Bool → TaskView → Awaited → Awaited → List Change
other_wait results t old object = ends results t old ∷ begins t object ∷ []

-- a wait begins, or ends, also for another; a task that waits for nothing may begin or end to sleep
abbrev pub wait_cases : Bool → TaskView → TaskView → Option Awaited → Option Awaited → List Change
wait_cases results b t None None = sleep_changes t.id b.wake t.wake
wait_cases results b t None (Some object) = begins t object ∷ []
wait_cases results b t (Some object) None = ends results t object ∷ sleep_changes t.id None t.wake
wait_cases results b t (Some old) (Some object) = if same_awaited old object && same_tick b.wake t.wake then [] else other_wait results t old object

abbrev pub wait_changes : Bool → TaskView → TaskView → List Change
wait_changes results b t = wait_cases results b t b.wait t.wait

-- ---- suspension and priority
-- a suspension begins or ends
abbrev pub suspension_changes : ℕ → Bool → Bool → List Change
suspension_changes who false true = changes.Suspended who ∷ []
suspension_changes who true false = changes.Resumed who ∷ []
suspension_changes who false false = []
suspension_changes who true true = []

-- the priority changes; by inheritance, if the normal priority is the same
abbrev pub priority_changes : TaskView → TaskView → List Change
priority_changes b t = if b.pri == t.pri then [] else changes.Priority t.id b.pri t.pri (b.normal == t.normal) ∷ []

-- the normal priority changes, and the change of the priority doesn't tell it: the priority is the same as before, or is
-- another one
abbrev pub normal_changes : TaskView → TaskView → List Change
normal_changes b t =
    if b.normal == t.normal || (not (b.pri == t.pri) && t.pri == t.normal) then [] else changes.Normal t.id t.normal ∷ []

-- a task waits for nothing, doesn't sleep and isn't suspended
abbrev pub is_ready : TaskView → Bool
is_ready t = is_none t.wait && (is_none t.wake && not t.suspended)

-- a ready task goes after the others of its priority: it has a new order number and the same priority, and is ready before
-- and after
abbrev pub yield_changes : TaskView → TaskView → List Change
yield_changes b t =
    if b.since == t.since || not (b.pri == t.pri && (is_ready b && is_ready t)) then [] else changes.Yields t.id ∷ []

-- ---- tasks whose changes need no line
-- one task has the same priorities, order number, suspension, wait and wake
abbrev pub is_quiet : TaskView → TaskView → Bool
is_quiet b t =
    b.id == t.id && (b.pri == t.pri && (b.normal == t.normal && (same_flag b.suspended t.suspended
    && (same_wait b.wait t.wait && (same_tick b.wake t.wake && b.since == t.since)))))

-- the tasks are the same, by ids that rise above a number, and quiet
abbrev pub all_quiet : ℕ → List TaskView → List TaskView → Bool
all_quiet low [] [] = true
all_quiet low [] (t ∷ ts) = false
all_quiet low (b ∷ bs) [] = false
all_quiet low (b ∷ bs) (t ∷ ts) = nat_lt low b.id && (is_quiet b t && all_quiet b.id bs ts)

-- ---- one task, and all tasks
-- a task that lives before and after the step
abbrev pub kept_changes : Bool → TaskView → TaskView → List Change
kept_changes results b t =
    wait_changes results b t
    ++ (suspension_changes t.id b.suspended t.suspended ++ (priority_changes b t ++ (normal_changes b t ++ yield_changes b t)))

-- a new task is ready, and its priority is its normal one
abbrev pub newborn : TaskView → TaskView
newborn t = record t { normal = t.pri; wait = None; wake = None; suspended = false }

-- a task that lives after the step
abbrev pub changes_of : Bool → Option TaskView → TaskView → List Change
changes_of results None t = changes.Spawned t.id t.pri ∷ kept_changes results (newborn t) t
changes_of results (Some b) t = kept_changes results b t

-- the tasks that live after the step, in their order
abbrev pub live_changes : Bool → List TaskView → List TaskView → List Change
live_changes results before [] = []
live_changes results before (t ∷ ts) = changes_of results (found before t.id) t ++ live_changes results before ts

-- a task that lives before the step is gone if it isn't found after it
abbrev pub deletion : ℕ → Option TaskView → List Change
deletion who None = changes.Deleted who ∷ []
deletion who (Some t) = []

abbrev pub deletions : List TaskView → List TaskView → List Change
deletions after [] = []
deletions after (b ∷ bs) = deletion b.id (found after b.id) ++ deletions after bs

-- what a step changes of tasks
abbrev pub task_changes : Bool → List TaskView → List TaskView → List Change
task_changes results before after = live_changes results before after ++ deletions after before
