-- What a contract sees of ready tasks: their priorities and ids in order of urgency, and the greatest number of them.
use Rattle.std.specs.Prelude.{ℕ, List, Option, None, Some}
use Rattle.std.specs.Option.{option_map}
use Rattle.linked_lists.specs.IdTableRecords as records
use Rattle.linked_lists.specs.IdTableSorting.{first}
use Rattle.linked_lists.specs.IdTableArrivals.{put_after}

-- the tasks, each as its priority and id, and the room
pub record Order : Type 0 where
  pub tasks : List (ℕ × ℕ)
  pub room : ℕ

-- the priority of a task
abbrev pub task_pri : ℕ × ℕ → ℕ
task_pri t = t.0

-- the id of a task
abbrev pub task_id : ℕ × ℕ → ℕ
task_id t = t.1

-- the priority of this task, if it is among them
abbrev pub pri_of : List (ℕ × ℕ) → ℕ → Option ℕ
pri_of ts id = option_map task_pri (records.of_id task_id ts id)

-- the tasks with one more, after all others of its priority
abbrev pub put_in : List (ℕ × ℕ) → ℕ × ℕ → List (ℕ × ℕ)
put_in ts t = put_after task_id task_pri ts t

-- one more task, after all others of its priority
abbrev pub with_task : Order → ℕ × ℕ → Order
with_task o t = record o { tasks = put_in o.tasks t }

-- the tasks without the one with this id
abbrev pub taken_out : List (ℕ × ℕ) → ℕ → List (ℕ × ℕ)
taken_out ts id = records.without task_id ts id

-- without the task with this id
abbrev pub without_task : Order → ℕ → Order
without_task o id = record o { tasks = taken_out o.tasks id }

-- the tasks after one of them goes after all others of its priority; without a priority, nothing changes
abbrev pub moved_back : Order → ℕ → Option ℕ → Order
moved_back o id None = o
moved_back o id (Some pri) = with_task (without_task o id) (pri, id)

-- the tasks after one of them goes after all others of its priority, if it is among them
abbrev pub rotated : Order → ℕ → Order
rotated o id = moved_back o id (pri_of o.tasks id)

-- the id of the first task
abbrev pub first_id : List (ℕ × ℕ) → Option ℕ
first_id ts = option_map task_id (first ts)
