-- What follows from the kernel's definitions alone.
use Rattle.std.specs.Prelude.{◌≡◌, ℕ, ◌+◌, ◌<◌, ◌⊎◌, Bool, true, false, List, [], Option, None, Some}
use Rattle.std.specs.Cmp.{IsStrictWeakOrder}
use Rattle.std.specs.List.{All, Contains}
use Rattle.wind_base.specs.declared.errno.Errno.{Errno}
use Rattle.id_table.specs.declared.ident.Place.{Place}
use Rattle.task_block.specs.declared.task.Task.{Task}
use Rattle.task_block.specs.Standing.{is_ready}
use Rattle.wind_core.specs.State.{KernState, IsKern, WakesAhead}
use Rattle.wind_core.specs.Orders.{is_before, waits_before, arrives_before, waiters, running}
use Rattle.wind_core.specs.Moves.{wake_all}
use Rattle.wind_core.specs.Tick.{tick}
use Rattle.wind_core.specs.Move.{Move, apply, IsAllowed, after, EachMove}

-- a task that may run: it is live and ready, and no ready task is before it, unless it ran last and holds the scheduler lock
pub record MayRun (s : KernState) (x : Task) : Type 0 where
  pub lives : Contains s.tasks x
  pub ready : is_ready x ≡ true
  pub urgent : (u : Task) → Contains s.tasks u → is_ready u ≡ true → (is_before u x ≡ false) ⊎ ((s.last ≡ Some x.id) × (0 < x.locks))

-- the running task may run
abbrev pub RunnerLaw : Type 0
RunnerLaw = (s : KernState) → IsKern s → (x : Task) → running s ≡ Some x → MayRun s x

-- the task that ran last goes on, if it is ready and holds the scheduler lock
abbrev pub LockLaw : Type 0
LockLaw = (s : KernState) → IsKern s → (x : Task) → Contains s.tasks x → s.last ≡ Some x.id → is_ready x ≡ true → 0 < x.locks → running s ≡ Some x

-- if no task runs, no task is ready
abbrev pub IdleLaw : Type 0
IdleLaw = (s : KernState) → running s ≡ None → All (λ u. is_ready u ≡ false) s.tasks

-- a total order: two tasks of the kernel are the same if neither is before the other
pub record IsTotal (lt : Task → Task → Bool) : Type 0 where
  pub order : IsStrictWeakOrder lt
  pub one : (s : KernState) → IsKern s → (x y : Task) → Contains s.tasks x → Contains s.tasks y → lt x y ≡ false → lt y x ≡ false → x ≡ y

-- the orders by wait, by urgency and by arrival are total
abbrev pub WaitersLaw : Type 0
WaitersLaw = IsTotal waits_before × IsTotal is_before × IsTotal arrives_before

-- after waking all, no task waits at the place
abbrev pub WakeAllLaw : Type 0
WakeAllLaw = (s : KernState) → IsKern s → (place : Place) (answer : ℕ) (errno : Option Errno) → waiters (wake_all s place answer errno).tasks place ≡ []

-- a tick keeps the invariant
abbrev pub TickLaw : Type 0
TickLaw = (s : KernState) → IsKern s → IsKern (tick s)

-- the tick count rises by one, and every wake is then in the future
abbrev pub AheadLaw : Type 0
AheadLaw = (s : KernState) → IsKern s → ((tick s).tick ≡ s.tick + 1) × All (WakesAhead (s.tick + 1)) (tick s).tasks

-- each allowed move keeps the invariant, whichever task it names
abbrev pub KeptLaw : Type 0
KeptLaw = (k : KernState) (m : Move) → IsKern k → IsAllowed k m → IsKern (apply k m)

-- so does every list of allowed moves
abbrev pub SeriesLaw : Type 0
SeriesLaw = (k : KernState) (ms : List Move) → IsKern k → EachMove IsAllowed k ms → IsKern (after k ms)
