-- What follows from the definitions of semaphores alone.
use Rattle.std.specs.Prelude.{◌≡◌, ℕ, Bool, true, false, List, [], Some}
use Rattle.std.specs.List.{Contains}
use Rattle.wind_base.specs.declared.semaphore.SemKind.{SemKind}
use Rattle.wind_base.specs.declared.semaphore.SemOptions.{SemOptions}
use Rattle.id_table.specs.declared.ident.Place.{Place}
use Rattle.task_block.specs.declared.task.Task.{Task}
use Rattle.wind_core.specs.State.{KernState, IsKern}
use Rattle.wind_core.specs.Orders.{same_place, waits_at, waits_before, waiters}
use Rattle.wind_core.specs.Move.{Move, Pend, apply, IsRising, after, EachMove}
use Rattle.sem_plain.specs.State.{SemState, both, sem_place, may_hold}
use Rattle.sem_plain.specs.Calls.{create, new_semaphore, take, give, next_of, flush, delete}
use Rattle.sem_plain.specs.Kept.{KeepsSemaphores, IsForEmpty, IsForMade, WaitsLive, live_with, BeginsOnly}

-- ---- the kernel's other moves
-- no wait begins anywhere
abbrev pub nowhere : Place → Bool
nowhere p = false

-- no move of the kernel begins a wait, except a pend, at its place
abbrev pub begun_by : Move → Place → Bool
begun_by (Pend who place fifo n) = same_place place
begun_by m = nowhere

-- a move begins waits only at its own place, if it begins one
abbrev pub KernelLaw : Type 0
KernelLaw = (k : KernState) (m : Move) → IsRising k m → BeginsOnly (begun_by m) k (apply k m)

-- moves one after the other
abbrev pub ThenLaw : Type 0
ThenLaw = (begins : Place → Bool) (k m n : KernState) → BeginsOnly begins k m → BeginsOnly begins m n → BeginsOnly begins k n

-- a move doesn't lower the next id, and begins waits only at such places
abbrev pub BeginsWithin : (Place → Bool) → KernState → Move → Type 0
BeginsWithin begins k m = IsRising k m × ((p : Place) → begun_by m p ≡ true → begins p ≡ true)

-- a list of such moves begins waits only there
abbrev pub SeriesLaw : Type 0
SeriesLaw = (begins : Place → Bool) (k : KernState) (ms : List Move) → EachMove (BeginsWithin begins) k ms → BeginsOnly begins k (after k ms)

-- waits may begin there: the object's id was given already, and it isn't a semaphore with a count above 0
pub record MayBegin (s : SemState) (p : Place) : Type 0 where
  pub empty : IsForEmpty s.semaphores (Some p)
  pub made : IsForMade s.kern.next_id (Some p)

-- the semaphores' invariant stays if waits begin only at such places
abbrev pub BesideLaw : Type 0
BesideLaw = (s : SemState) (begins : Place → Bool) (n : KernState) → KeepsSemaphores s → BeginsOnly begins s.kern n → ((p : Place) → begins p ≡ true → MayBegin s p)
    → KeepsSemaphores (both n s.semaphores)

-- all waits are still for live objects if waits begin only at live places
abbrev pub LiveBesideLaw : Type 0
LiveBesideLaw = (live begins : Place → Bool) (k n : KernState) → WaitsLive live k → BeginsOnly begins k n → ((p : Place) → begins p ≡ true → live p ≡ true) → WaitsLive live n

-- ---- the calls on semaphores
-- the calls keep the invariant, whichever task makes them
pub record KeptByCalls (s : SemState) : Type 0 where
  pub creating : (kind : SemKind) (options : SemOptions) (count : ℕ) → may_hold kind count ≡ true → KeepsSemaphores (create s (new_semaphore kind options count))
  pub taking : (who id n : ℕ) → KeepsSemaphores (take s who id n)
  pub giving : (id : ℕ) → KeepsSemaphores (give s id)
  pub flushing : (id : ℕ) → KeepsSemaphores (flush s id)
  pub deleting : (id : ℕ) → KeepsSemaphores (delete s id)

-- the calls keep the invariant
abbrev pub CallsLaw : Type 0
CallsLaw = (s : SemState) → KeepsSemaphores s → KeptByCalls s

-- each wait is for a live semaphore, or for a live object of another kind
abbrev pub WaitsLiveIn : (Place → Bool) → SemState → Type 0
WaitsLiveIn others s = WaitsLive (live_with others s.semaphores) s.kern

-- the calls keep that
pub record LiveByCalls (others : Place → Bool) (s : SemState) : Type 0 where
  pub creating : (kind : SemKind) (options : SemOptions) (count : ℕ) → WaitsLiveIn others (create s (new_semaphore kind options count))
  pub taking : (who id n : ℕ) → WaitsLiveIn others (take s who id n)
  pub giving : (id : ℕ) → WaitsLiveIn others (give s id)
  pub flushing : (id : ℕ) → WaitsLiveIn others (flush s id)
  pub deleting : (id : ℕ) → WaitsLiveIn others (delete s id)

-- the calls keep that each wait is for a live object
abbrev pub LiveCallsLaw : Type 0
LiveCallsLaw = (others : Place → Bool) (s : SemState) → IsKern s.kern → WaitsLiveIn others s → LiveByCalls others s

-- ---- those that wait
-- x waits for the semaphore, and no task that waits for it is before x
pub record IsNext (s : SemState) (id : ℕ) (x : Task) : Type 0 where
  pub lives : Contains s.kern.tasks x
  pub waits : waits_at (sem_place id) x ≡ true
  pub first : (u : Task) → Contains s.kern.tasks u → waits_at (sem_place id) u ≡ true → waits_before u x ≡ false

-- a give hands the semaphore to such a task
abbrev pub HandLaw : Type 0
HandLaw = (s : SemState) (id : ℕ) (x : Task) → next_of s id ≡ Some x → IsNext s id x

-- after a flush or a deletion, no task waits for it
abbrev pub WokenLaw : Type 0
WokenLaw = (s : SemState) (id : ℕ) → IsKern s.kern → (waiters (flush s id).kern.tasks (sem_place id) ≡ []) × (waiters (delete s id).kern.tasks (sem_place id) ≡ [])
