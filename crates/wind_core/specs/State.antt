-- What a contract sees of the kernel's tasks.
use Rattle.std.specs.Prelude.{◌≡◌, ℕ, ◌+◌, ◌<◌, ◌≤◌, Bool, List, length, Option, IfSome, IsSome, nat_lt}
use Rattle.std.specs.List.{All, AllPairs, find}
use Rattle.std.specs.Option.{option_map}
use Rattle.std.specs.Str.{bytes_eq}
use Rattle.wind_base.specs.Limits.{most_tasks, greatest_id}
use Rattle.task_block.specs.declared.task.Task.{Task}
use Rattle.id_table.specs.Records.{of_id, Rising}

-- the kernel's tasks and counters
pub record KernState : Type 0 where
  -- the live tasks, by rising id
  pub tasks : List Task
  -- the number of ticks so far
  pub tick : ℕ
  -- the length of a time slice in ticks; 0 means that time slices don't end
  pub slice : ℕ
  -- the next id, whether the ids are lent to the maker of other objects, and the next order number
  pub next_id : ℕ
  pub lent : Bool
  pub next_since : ℕ
  -- the task that ran last
  pub last : Option ℕ

-- the id of a task
abbrev pub task_id : Task → ℕ
task_id t = t.id

-- the live task with this id
abbrev pub task_of : List Task → ℕ → Option Task
task_of ts id = of_id task_id ts id

-- the task with this name that has the least id
abbrev pub task_named : List Task → List ℕ → Option Task
task_named ts name = find (λ t. bytes_eq t.name name) ts

-- the task with this id is live
abbrev pub Lives : KernState → ℕ → Type 0
Lives s who = IsSome (task_of s.tasks who)

-- the least live id above a number
abbrev pub task_above : List Task → ℕ → Option ℕ
task_above ts n = option_map task_id (find (λ t. nat_lt n t.id) ts)

-- the task's wake, if it has one, is in the future
abbrev pub WakesAhead : ℕ → Task → Type 0
WakesAhead tick t = IfSome t.wake (λ wake. tick < wake)

-- the kernel's invariant, which every call keeps
pub record IsKern (s : KernState) : Type 0 where
  pub few : length s.tasks ≤ most_tasks
  -- ids rise along the list, and are below the next one
  pub rising : Rising task_id s.tasks
  pub ids : All (λ t. t.id < s.next_id) s.tasks
  pub first_id : 0 < s.next_id
  pub last_id : s.next_id ≤ greatest_id + 1
  -- no two tasks have the same order number, and each is below the next one
  pub distinct : AllPairs (λ t u. t.since ≡ u.since → ⊥) s.tasks
  pub sinces : All (λ t. t.since < s.next_since) s.tasks
  -- no task is delayed past its wake
  pub ahead : All (WakesAhead s.tick) s.tasks
