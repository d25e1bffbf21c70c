-- The ids of all that lives: tasks, and objects of every kind.
use Rattle.std.specs.Prelude.{◌≡◌, ℕ, ◌+◌, ◌<◌, ◌≤◌, List, ◌++◌, map, IfSome}
use Rattle.std.specs.List.{All}
use Rattle.id_table.specs.Rows.{ids}
use Rattle.module_loader.specs.Holding.{occurs}
use Rattle.wind_core.specs.State.{task_id}
use Rattle.sem_mutex.specs.InheritanceMutex.{Mutex}
use Rattle.isr_watch.specs.State.{watchdog_id}
use Rattle.kernel_world.specs.State.{WorldState}
use Rattle.kernel_world.specs.declared.objects.Objects.{Objects}

-- the ids of the live tasks
abbrev pub task_ids : WorldState → List ℕ
task_ids w = map task_id w.kern.tasks

-- the ids of the live objects for which tasks wait: semaphores, mutexes and message queues
abbrev pub waited_ids : Objects → List ℕ
waited_ids o = ids o.semaphores ++ (ids o.mutexes.rows ++ ids o.queues.queues)

-- the ids of the live watchdogs and modules
abbrev pub other_ids : WorldState → List ℕ
other_ids w = map watchdog_id w.watch.watchdogs ++ ids w.modules.rows

-- the ids of all live objects other than tasks
abbrev pub object_ids : WorldState → List ℕ
object_ids w = waited_ids w.objects ++ other_ids w

-- no two tasks or objects have the same id, and each id is below the next one; so is the id of each mutex's owner,
-- and no object has it
pub record AreIds (next : ℕ) (tasks objects : List ℕ) (mutexes : List (ℕ × Mutex)) : Type 0 where
  pub distinct : (n : ℕ) → occurs n tasks + occurs n objects ≤ 1
  pub below : (n : ℕ) → 0 < occurs n tasks + occurs n objects → n < next
  pub owners : All (λ r. IfSome r.1.owner (λ n. (n < next) × (occurs n objects ≡ 0))) mutexes

-- all live ids of all kinds are distinct and below the next; each mutex's owner, live or ended, has an id below the
-- next, and no live object other than a task has it
abbrev pub KeepsIds : WorldState → Type 0
KeepsIds w = AreIds w.kern.next_id (task_ids w) (object_ids w) w.objects.mutexes.rows
