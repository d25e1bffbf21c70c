-- What follows from the definitions alone.
use Rattle.std.specs.Prelude.{◌≡◌, ℕ, ◌<◌, ◌≤◌, true, false, cond, nat_lt, [], None, Some}
use Rattle.std.specs.List.{All}
use Rattle.wind_base.specs.declared.profile.Profile.TheVariants.{One, Two}
use Rattle.wind_base.specs.SemBits.{is_priority, is_inversion_safe}
use Rattle.wind_base.specs.declared.semaphore.SemOptions.{SemOptions}
use Rattle.wind_core.specs.State.{KernState, IsKern, Lives}
use Rattle.wind_core.specs.Orders.{waits_at}
use Rattle.wind_core.specs.Move.{Move, Pend, ChangePri, Set, DrawIds, apply}
use Rattle.wind_core.specs.declared.settings.Setting.TheVariants as settings
use Rattle.task_safety.specs.Safety.{make_safe, lessen}
use Rattle.task_safety.specs.Deletion.{delete as delete_task}
use Rattle.id_table.specs.Rows.{object_of}
use Rattle.inheritance.specs.declared.mutex.Mutex.{Mutex}
use Rattle.inheritance.specs.Mutexes.{MutexState, AreMutexes, mutex_place}
use Rattle.inheritance.specs.Reach.{mutex_at, boss, pri_of, path, is_on, prefix_while, raised, IsExact}
use Rattle.inheritance.specs.Laws.{OwnersUrgentBut}
use Rattle.sem_mutex.specs.Calls.{starved, take_deed, await, take, take_refusal, give, give_refusal, delete, delete_refusal, priority_alone, priority_set}
use Rattle.sem_mutex.specs.Making.{create, new_mutex}
use Rattle.sem_mutex.specs.Kept.{KeepsMutexes, IsSettled}

-- the mutexes' invariant holds with this kernel
abbrev pub Keeps : MutexState → KernState → Type 0
Keeps s k = KeepsMutexes (record s { kern = k })

-- a move leaves mutexes alone: it begins no wait for a mutex, doesn't lower the next id, and writes no priority and
-- no count of mutexes; only the calls on mutexes write those
abbrev pub SparesMutexes : MutexState → Move → Type 0
SparesMutexes s (Pend who place fifo n) = (mutex_at s.mutexes (Some place) ≡ None) × (place.id < s.kern.next_id)
SparesMutexes s (ChangePri who pri) = ⊥
SparesMutexes s (Set who (settings.Normal pri)) = ⊥
SparesMutexes s (Set who (settings.Held n)) = ⊥
SparesMutexes s (DrawIds next) = s.kern.next_id ≤ next
SparesMutexes s m = Unit {0}

-- the mutexes' invariant holds again after such a move, whichever task it names
abbrev pub BesideLaw : Type 0
BesideLaw = (s : MutexState) (m : Move) → KeepsMutexes s → SparesMutexes s m → Keeps s (apply s.kern m)

-- it holds again after the calls on safe sections, and after deletions
pub record KeptBySafety (s : MutexState) : Type 0 where
  pub guarding : (who : ℕ) → Keeps s (make_safe s.kern who)
  pub lessening : (who n : ℕ) → Keeps s (lessen s.kern who n)
  pub deleting : (caller target : ℕ) → IsKern s.kern → Keeps s (delete_task s.kern caller target)

-- these calls keep it
abbrev pub SafetyLaw : Type 0
SafetyLaw = (s : MutexState) → KeepsMutexes s → KeptBySafety s

-- if the invariant holds and, under profile 2, priorities are exact, raising changes nothing, so no other call needs
-- to raise
abbrev pub IdleLaw : Type 0
IdleLaw = (s : MutexState) → IsKern s.kern → KeepsMutexes s → (s.profile ≡ Two → IsExact s) → raised s ≡ s

-- raising keeps the invariant, and priorities are exact afterwards
pub record Settles (s : MutexState) : Type 0 where
  pub keeps : KeepsMutexes (raised s)
  pub exact : IsExact (raised s)

abbrev pub SettleLaw : Type 0
SettleLaw = (s : MutexState) → IsKern s.kern → KeepsMutexes s → Settles s

-- if the invariant holds and, under profile 2, priorities are exact, all that is true of priorities at the end of a
-- step is true
abbrev pub SettledLaw : Type 0
SettledLaw = (s : MutexState) → IsKern s.kern → KeepsMutexes s → (s.profile ≡ Two → IsExact s) → IsSettled s

-- the calls on mutexes keep it
pub record KeptByCalls (s : MutexState) : Type 0 where
  pub taking : (who id n : ℕ) → Lives s.kern who → take_refusal who n (object_of s.mutexes id) ≡ None
      → KeepsMutexes (take s who id n)
  pub giving : (who id : ℕ) → Lives s.kern who → give_refusal who (object_of s.mutexes id) ≡ None
      → KeepsMutexes (give s who id)
  pub deleting : (id : ℕ) → delete_refusal (object_of s.mutexes id) ≡ None → KeepsMutexes (delete s id)
  pub setting_priority : (who pri : ℕ) → KeepsMutexes (priority_set s who pri)
  pub creating : (options : SemOptions) → (is_inversion_safe options ≡ true → is_priority options ≡ true)
      → KeepsMutexes (create s (new_mutex options))

-- all calls on mutexes keep it
abbrev pub CallsLaw : Type 0
CallsLaw = (s : MutexState) → IsKern s.kern → AreMutexes s.mutexes → KeepsMutexes s → KeptByCalls s

-- no task waits for a deleted mutex
abbrev pub GoneLaw : Type 0
GoneLaw = (s : MutexState) (id : ℕ) → IsKern s.kern → delete_refusal (object_of s.mutexes id) ≡ None
    → All (λ t. waits_at (mutex_place id) t ≡ false) (delete s id).kern.tasks

-- the invariant holds if there are no tasks and no mutexes
abbrev pub OpeningLaw : Type 0
OpeningLaw = (s : MutexState) → s.kern.tasks ≡ [] → s.mutexes ≡ [] → KeepsMutexes s

-- ---- the premise of the walk law, under profile 1
-- after a task begins to wait for a mutex, each other waiter's owner is at least as urgent as the waiter
abbrev pub PendingLaw : Type 0
PendingLaw = (s : MutexState) (who id n : ℕ) (m : Mutex) → s.profile ≡ One → KeepsMutexes s
    → OwnersUrgentBut who s.mutexes (await s who id n m).kern.tasks

-- the same after a task's normal priority is set, and its priority follows
abbrev pub RepricingLaw : Type 0
RepricingLaw = (s : MutexState) (who pri : ℕ) → s.profile ≡ One → IsKern s.kern → KeepsMutexes s
    → OwnersUrgentBut who s.mutexes (priority_alone s who pri).kern.tasks

-- in the second state the owners on w's path before the first that is at least as urgent as w have w's priority, and
-- each other task has its priority of the first state
abbrev pub OnlyHeirsRise : MutexState → MutexState → ℕ → Type 0
OnlyHeirsRise s t w = (x : ℕ) → Lives s.kern x
    → pri_of t.kern.tasks x
    ≡ cond (is_on (prefix_while (λ z. nat_lt (pri_of s.kern.tasks w) (pri_of s.kern.tasks z))
    (path (boss s.kern.tasks s.mutexes) 256 w)) x)
    (pri_of s.kern.tasks w) (pri_of s.kern.tasks x)

-- a take that waits raises only the caller's heirs
abbrev pub WaitingLaw : Type 0
WaitingLaw = (s : MutexState) (who id n : ℕ) (m : Mutex) → s.profile ≡ One → KeepsMutexes s → Lives s.kern who
    → take_deed who n (object_of s.mutexes id) ≡ starved m → OnlyHeirsRise (await s who id n m) (take s who id n) who

-- setting a task's normal priority raises only the task's heirs, once its own priority has followed
abbrev pub SettingLaw : Type 0
SettingLaw = (s : MutexState) (who pri : ℕ) → s.profile ≡ One → IsKern s.kern → KeepsMutexes s → Lives s.kern who
    → OnlyHeirsRise (priority_alone s who pri) (priority_set s who pri) who
