-- What follows from the order of wakes alone.
use Rattle.std.specs.Prelude.{◌≡◌, ℕ, ◌<◌, ◌≤◌, List, None, Some}
use Rattle.std.specs.List.{All}
use Rattle.linked_lists.specs.IdTableArrivals.{ArrivalLaw, Change, IsEarliest, after_changes, arrivals}
use Rattle.delay_queue.specs.Wakes.{task_id, task_wake, due_at}

-- the tasks are always those that came and didn't go, by their wakes, and those of one wake in order of arrival
abbrev pub OrderLaw : Type 0
OrderLaw = ArrivalLaw task_id task_wake

-- a due task has the least wake of those that came, came before all others of that wake, and its wake is reached
pub record IsDue (ts : List (ℕ × ℕ)) (tick id : ℕ) : Type 0 where
  pub wake : ℕ
  pub reached : wake ≤ tick
  pub earliest : IsEarliest task_id task_wake ts (id, wake)

-- the task that is due is such a task
abbrev pub DueLaw : Type 0
DueLaw = (changes : List (Change (ℕ × ℕ))) (tick id : ℕ) → due_at (after_changes task_id task_wake changes) tick ≡ Some id → IsDue (arrivals task_id task_wake changes) tick id

-- if no task is due, all tasks wait for a later tick
abbrev pub NobodyLaw : Type 0
NobodyLaw = (changes : List (Change (ℕ × ℕ))) (tick : ℕ) → due_at (after_changes task_id task_wake changes) tick ≡ None → All (λ t. tick < t.1) (arrivals task_id task_wake changes)
