-- The orders of tasks: by urgency, by wait, by arrival and by wake.
use Rattle.std.specs.Prelude.{ℕ, Bool, false, ◌&&◌, ◌==◌, nat_lt, nat_le, if◌then◌else◌, List, [], ◌∷◌, Option, None, Some, is_some, unwrap_or}
use Rattle.std.specs.Cmp.Lexicographic.{slice_cmp}
use Rattle.std.specs.Ordering.{is_lt, nat_cmp}
use Rattle.std.specs.Option.{option_map}
use Rattle.id_table.specs.declared.ident.Place.{Place}
use Rattle.task_block.specs.declared.task.Task.{Task}
use Rattle.task_block.specs.Standing.{is_ready}
use Rattle.id_table.specs.Sorting.{first, in_line}
use Rattle.wind_core.specs.State.{KernState, task_id, task_of}

-- one list of numbers is before another: the first differing number decides
abbrev pub is_less : List ℕ → List ℕ → Bool
is_less a b = is_lt (slice_cmp nat_cmp a b)

-- the order of urgency: by priority, then by order number, then by id (Programmer's Guide, preemptive priority scheduling)
abbrev pub urgency : Task → List ℕ
urgency t = t.pri ∷ t.since ∷ t.id ∷ []

-- a task is more urgent than another
abbrev pub is_before : Task → Task → Bool
is_before t u = is_less (urgency t) (urgency u)

-- the order of arrival: by order number, then by id
abbrev pub arrival : Task → List ℕ
arrival t = t.since ∷ t.id ∷ []

-- a task arrived before another
abbrev pub arrives_before : Task → Task → Bool
arrives_before t u = is_less (arrival t) (arrival u)

-- a task waits by priority, or in order of arrival if it has the mark `fifo`
abbrev pub wait_pri : Task → ℕ
wait_pri t = if t.fifo then 0 else t.pri

-- the order of waiters: by priority or 0, then by order number, then by id
abbrev pub wait_key : Task → List ℕ
wait_key t = wait_pri t ∷ t.since ∷ t.id ∷ []

-- a task is before another at a place
abbrev pub waits_before : Task → Task → Bool
waits_before t u = is_less (wait_key t) (wait_key u)

-- two places are the same
abbrev pub same_place : Place → Place → Bool
same_place p q = p.side == q.side && p.id == q.id

-- a wait is at this place
abbrev pub is_place : Place → Option Place → Bool
is_place place None = false
is_place place (Some p) = same_place p place

-- the task waits at this place
abbrev pub waits_at : Place → Task → Bool
waits_at place t = is_place place t.wait

-- the tasks that wait at a place, in order
abbrev pub waiters : List Task → Place → List Task
waiters ts place = in_line waits_before (waits_at place) ts

-- the first task that waits at a place
abbrev pub first_waiter : List Task → Place → Option Task
first_waiter ts place = first (waiters ts place)

-- the most urgent ready task
abbrev pub most_urgent : List Task → Option Task
most_urgent ts = first (in_line is_before is_ready ts)

-- the task is ready and holds the scheduler lock, which keeps others from running
abbrev pub keeps_running : Task → Bool
keeps_running t = is_ready t && nat_lt 0 t.locks

-- the task, if it is ready and holds the scheduler lock
abbrev pub keeper : Option Task → Option Task
keeper None = None
keeper (Some t) = if keeps_running t then Some t else None

-- the task that ran last, if it is live
abbrev pub last_task : List Task → Option ℕ → Option Task
last_task ts None = None
last_task ts (Some id) = task_of ts id

-- the first of two optional tasks that is there
abbrev pub or_else : Option Task → Option Task → Option Task
or_else None o = o
or_else (Some t) o = Some t

-- the running task: the one that ran last, if it is ready and holds the scheduler lock; otherwise the most urgent ready task
abbrev pub running : KernState → Option Task
running s = or_else (keeper (last_task s.tasks s.last)) (most_urgent s.tasks)

-- the id of the running task
abbrev pub runner : KernState → Option ℕ
runner s = option_map task_id (running s)

-- a wake has come
abbrev pub has_come : ℕ → Option ℕ → Bool
has_come tick None = false
has_come tick (Some wake) = nat_le wake tick

-- the task's wake has come
abbrev pub is_due : ℕ → Task → Bool
is_due tick t = has_come tick t.wake

-- the tasks whose wake has come, in order of arrival
abbrev pub due : List Task → ℕ → List Task
due ts tick = in_line arrives_before (is_due tick) ts

-- the first of the tasks whose wake has come
abbrev pub first_due : List Task → ℕ → Option Task
first_due ts tick = first (due ts tick)

-- the task has a wake
abbrev pub sleeps : Task → Bool
sleeps t = is_some t.wake

-- the tick at which the task wakes, or 0 if there is none
abbrev pub waking_tick : Task → ℕ
waking_tick t = unwrap_or t.wake 0

-- the order of wakes: by the tick at which a task wakes, then by arrival
abbrev pub wake_key : Task → List ℕ
wake_key t = waking_tick t ∷ arrival t

-- a task wakes before another
abbrev pub wakes_before : Task → Task → Bool
wakes_before t u = is_less (wake_key t) (wake_key u)
