-- Which tasks are ready and which have a wake, as the queues hold them.
use Rattle.std.specs.Prelude.{◌≡◌, ◌<◌, ℕ, length, if◌then◌else◌, List, map, Option, None, Some}
use Rattle.wind_base.specs.Limits.{most_tasks}
use Rattle.task_block.specs.declared.task.Task.{Task}
use Rattle.task_block.specs.Standing.{is_ready}
use Rattle.id_table.specs.Sorting.{in_line}
use Rattle.wait_order.specs.Line.{Line, without_waiter}
use Rattle.ready_queue.specs.Order as urgent
use Rattle.delay_queue.specs.Wakes as timed
use Rattle.wind_core.specs.Orders.{is_before, sleeps, waking_tick, wakes_before}
use Rattle.wind_core.specs.Waiting.{task_waits}

-- a ready task, as its priority and id
abbrev pub as_ready : Task → ℕ × ℕ
as_ready t = (t.pri, t.id)

-- the ready tasks, in order of urgency
abbrev pub ready_of : List Task → List (ℕ × ℕ)
ready_of ts = map as_ready (in_line is_before is_ready ts)

-- the same, with room for all tasks
abbrev pub ready_tasks : List Task → urgent.Order
ready_tasks ts = record { tasks = ready_of ts; room = most_tasks }

-- a task that has a wake, as its id and wake
abbrev pub as_sleeper : Task → ℕ × ℕ
as_sleeper t = (t.id, waking_tick t)

-- the tasks that have a wake, in the order in which they wake
abbrev pub delayed_of : List Task → List (ℕ × ℕ)
delayed_of ts = map as_sleeper (in_line wakes_before sleeps ts)

-- the same, with room for all tasks
abbrev pub delayed_tasks : List Task → timed.Order
delayed_tasks ts = record { tasks = delayed_of ts; room = most_tasks }

-- the queue after one task is updated: it goes after all others of its priority, or isn't in the queue
abbrev pub ready_mended : urgent.Order → Task → urgent.Order
ready_mended o t = if is_ready t then urgent.with_task (urgent.without_task o t.id) (as_ready t) else urgent.without_task o t.id

-- a queue with one more task, if it has a wake
abbrev pub with_wake : timed.Order → ℕ → Option ℕ → timed.Order
with_wake o who None = o
with_wake o who (Some wake) = timed.with_task o (who, wake)

-- the queue after one task is updated: it goes after all with the same wake or an earlier one, or isn't in the queue
abbrev pub delays_mended : timed.Order → Task → timed.Order
delays_mended o t = with_wake (timed.without_task o t.id) t.id t.wake

-- each queue has room for the task with this id
pub record HaveRoom (l : Line) (r : urgent.Order) (d : timed.Order) (who : ℕ) : Type 0 where
  pub waits : length (without_waiter l who).waiters < l.room
  pub ready : length (urgent.taken_out r.tasks who) < r.room
  pub delays : length (timed.taken_out d.tasks who) < d.room

-- the queues hold exactly what the tasks say
pub record AreQueued (waits : Line) (ready : urgent.Order) (delays : timed.Order) (ts : List Task) : Type 0 where
  pub waits_held : waits ≡ task_waits ts
  pub ready_held : ready ≡ ready_tasks ts
  pub delays_held : delays ≡ delayed_tasks ts
