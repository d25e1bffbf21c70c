-- What follows from the order of ready tasks alone.
use Rattle.std.specs.Prelude.{◌≡◌, ℕ, List, Some}
use Rattle.linked_lists.specs.IdTableArrivals.{ArrivalLaw, Change, IsEarliest, after_changes, arrivals}
use Rattle.ready_queue.specs.Order.{task_id, task_pri, first_id}

-- the ready tasks are always those that came and didn't go, by priority, and those of one priority in order of arrival
abbrev pub OrderLaw : Type 0
OrderLaw = ArrivalLaw task_id task_pri

-- the first task has the least priority number of those that came, and came before all others of that priority
pub record IsFirst (ts : List (ℕ × ℕ)) (id : ℕ) : Type 0 where
  pub pri : ℕ
  pub earliest : IsEarliest task_id task_pri ts (pri, id)

-- the first of the ready tasks is such a task
abbrev pub FirstLaw : Type 0
FirstLaw = (changes : List (Change (ℕ × ℕ))) (id : ℕ) → first_id (after_changes task_id task_pri changes) ≡ Some id → IsFirst (arrivals task_id task_pri changes) id
