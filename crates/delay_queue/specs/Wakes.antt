-- What a contract sees of tasks that wait for a tick: their ids and wakes in the order in which they are due,
-- and the greatest number of them.
use Rattle.std.specs.Prelude.{ℕ, nat_le, if◌then◌else◌, List, [], ◌∷◌, Option, None, Some}
use Rattle.linked_lists.specs.IdTableRows as rows
use Rattle.linked_lists.specs.IdTableArrivals.{put_after}

-- the tasks, each as its id and the tick at which it is due, and the room
pub record Order : Type 0 where
  pub tasks : List (ℕ × ℕ)
  pub room : ℕ

-- a task is a row of a table: its id, with its wake
abbrev pub task_id : ℕ × ℕ → ℕ
task_id = rows.row_id

abbrev pub task_wake : ℕ × ℕ → ℕ
task_wake = rows.row_object

-- the wake of this task, if it is among them
abbrev pub wake_of : List (ℕ × ℕ) → ℕ → Option ℕ
wake_of = rows.object_of

-- the tasks with one more, after all with the same wake or an earlier one
abbrev pub put_in : List (ℕ × ℕ) → ℕ × ℕ → List (ℕ × ℕ)
put_in ts t = put_after task_id task_wake ts t

-- one more task, after all with the same wake or an earlier one
abbrev pub with_task : Order → ℕ × ℕ → Order
with_task o t = record o { tasks = put_in o.tasks t }

-- the tasks without the one with this id
abbrev pub taken_out : List (ℕ × ℕ) → ℕ → List (ℕ × ℕ)
taken_out = rows.without

-- without the task with this id
abbrev pub without_task : Order → ℕ → Order
without_task o id = record o { tasks = taken_out o.tasks id }

-- the first task, if it is due at this tick
abbrev pub due_at : List (ℕ × ℕ) → ℕ → Option ℕ
due_at [] tick = None
due_at (t ∷ ts) tick = if nat_le t.1 tick then Some t.0 else None

-- the tasks without the due one, if there is one
abbrev pub without_some : Order → Option ℕ → Order
without_some o None = o
without_some o (Some id) = without_task o id

-- without the task that is due at this tick, if there is one
abbrev pub without_due : Order → ℕ → Order
without_due o tick = without_some o (due_at o.tasks tick)
