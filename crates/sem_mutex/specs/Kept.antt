-- The invariant of mutexes, which the calls on them require and keep.
use Rattle.std.specs.Prelude.{◌≡◌, ℕ, ◌<◌, ◌≤◌, ◌^◌, true, false, List, IfSome, IsSome}
use Rattle.std.specs.List.{All}
use Rattle.wind_base.specs.declared.profile.Profile.{Profile}
use Rattle.wind_base.specs.declared.profile.Profile.TheVariants.{One}
use Rattle.task_block.specs.declared.task.Task.{Task}
use Rattle.id_table.specs.Rows.{object_of}
use Rattle.wind_core.specs.State.{KernState, task_of}
use Rattle.task_safety.specs.Safety.{safe_of}
use Rattle.inheritance.specs.declared.mutex.Mutex.{Mutex}
use Rattle.inheritance.specs.Mutexes.{MutexState, held_count}
use Rattle.inheritance.specs.Reach.{mutex_at, IsExact}
use Rattle.inheritance.specs.Laws.{OwnersUrgent}

-- the owner was made as a task, and has taken the mutex at least once; an inversion-safe mutex has waiters by priority
pub record MutexKept (next : ℕ) (r : ℕ × Mutex) : Type 0 where
  pub id : r.0 < next
  pub owner : IfSome r.1.owner (λ o. o < next)
  pub depth : IsSome r.1.owner → 0 < r.1.depth
  pub by_urgency : r.1.inversion_safe ≡ true → r.1.by_priority ≡ true

-- the invariant of a task, where `count` is the number of inversion-safe mutexes of each task
pub record TaskKept (p : Profile) (ms : List (ℕ × Mutex)) (count : ℕ → ℕ) (next : ℕ) (t : Task) : Type 0 where
  -- under profile 1 it is at least as urgent as its normal priority
  pub raised : p ≡ One → t.pri ≤ t.normal
  -- its count of owned mutexes is right
  pub held : t.held ≡ count t.id
  -- under profile 1, if it owns none, it has its normal priority
  pub normal : p ≡ One → t.held ≡ 0 → t.pri ≡ t.normal
  -- it waits for an object that was made
  pub made : IfSome t.wait (λ p. p.id < next)
  -- it waits for no free mutex, and for an inversion-safe one by priority
  pub owned : IfSome (mutex_at ms t.wait) (λ m. IsSome m.owner × (m.inversion_safe ≡ true → t.fifo ≡ false))

-- the invariant of all tasks and mutexes, without the priorities of owners
pub record Holds (p : Profile) (count : ℕ → ℕ) (ms : List (ℕ × Mutex)) (k : KernState) : Type 0 where
  pub tasks : All (TaskKept p ms count k.next_id) k.tasks
  pub mutexes : All (MutexKept k.next_id) ms

-- the invariant of mutexes
pub record KeepsMutexes (s : MutexState) : Type 0 where
  pub holds : Holds s.profile (held_count s.mutexes) s.mutexes s.kern
  -- under profile 1 each live owner is at least as urgent as its waiters
  pub urgent : s.profile ≡ One → OwnersUrgent s.mutexes s.kern.tasks

-- what is true of priorities at the end of each step, under both profiles
pub record IsSettled (s : MutexState) : Type 0 where
  -- each task has exactly the priority that it inherits
  pub exact : IsExact s
  -- each live owner is at least as urgent as its waiters
  pub urgent : OwnersUrgent s.mutexes s.kern.tasks
  -- each task is at least as urgent as its normal priority
  pub raised : All (λ t. t.pri ≤ t.normal) s.kern.tasks
  -- a task that owns no inversion-safe mutex has its normal priority
  pub normal : All (λ t. t.held ≡ 0 → t.pri ≡ t.normal) s.kern.tasks

-- the order numbers are far from overflow
abbrev pub FewSinces : KernState → Type 0
FewSinces k = k.next_since < 2 ^ 61

-- the counts of safe sections are far from overflow
abbrev pub FewSafe : KernState → Type 0
FewSafe k = All (λ t. t.safe < 2 ^ 61) k.tasks

-- all counters are far from overflow: those of order numbers, ticks, safe sections and takes
pub record IsEarly (s : MutexState) : Type 0 where
  pub sinces : FewSinces s.kern
  pub ticks : s.kern.tick < 2 ^ 61
  pub safes : FewSafe s.kern
  pub depths : All (λ r. r.1.depth < 2 ^ 61) s.mutexes

-- the counters that this task's take of this mutex raises are far from overflow
pub record IsEarlyFor (s : MutexState) (who id : ℕ) : Type 0 where
  pub sinces : FewSinces s.kern
  pub ticks : s.kern.tick < 2 ^ 61
  pub safe : safe_of (task_of s.kern.tasks who) < 2 ^ 61
  pub depth : IfSome (object_of s.mutexes id) (λ m. m.depth < 2 ^ 61)
