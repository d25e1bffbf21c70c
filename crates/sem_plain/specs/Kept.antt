-- The invariant of semaphores and of waits, which every step keeps.
use Rattle.std.specs.Prelude.{◌≡◌, ◌==◌, ℕ, ◌<◌, ◌≤◌, ◌⊎◌, Bool, true, ◌&&◌, ◌||◌, List, Option, Some, IfSome, is_some}
use Rattle.std.specs.List.{All, Contains}
use Rattle.id_table.specs.Rows.{object_of, IdsBelow}
use Rattle.id_table.specs.Sides.{object_side}
use Rattle.id_table.specs.declared.ident.Place.{Place}
use Rattle.task_block.specs.declared.task.Task.{Task}
use Rattle.wind_core.specs.State.{KernState}
use Rattle.sem_plain.specs.declared.semaphore.Semaphore.{Semaphore}
use Rattle.sem_plain.specs.State.{SemState, semaphore_at, may_hold}

-- a semaphore's count is one that its kind can have
abbrev pub IsCount : Semaphore → Type 0
IsCount v = may_hold v.kind v.count ≡ true

-- a wait isn't for a semaphore with a count above 0
abbrev pub IsForEmpty : List (ℕ × Semaphore) → Option Place → Type 0
IsForEmpty ss w = IfSome (semaphore_at ss w) (λ v. v.count ≡ 0)

-- a wait is for an object whose id was given already
abbrev pub IsForMade : ℕ → Option Place → Type 0
IsForMade next w = IfSome w (λ p. p.id < next)

-- the invariant of semaphores
pub record KeepsSemaphores (s : SemState) : Type 0 where
  pub ids : IdsBelow s.kern.next_id s.semaphores
  pub counts : All (λ r. IsCount r.1) s.semaphores
  -- a semaphore with waiters has count 0
  pub empty : All (λ t. IsForEmpty s.semaphores t.wait) s.kern.tasks
  -- no task waits for an object that isn't made yet
  pub made : All (λ t. IsForMade s.kern.next_id t.wait) s.kern.tasks

-- ---- waits for live objects
-- each waiting task waits at a place whose object is live, as `live` says
abbrev pub WaitsLive : (Place → Bool) → KernState → Type 0
WaitsLive live k = All (λ t. IfSome t.wait (λ p. live p ≡ true)) k.tasks

-- a place at which tasks wait for a live semaphore
abbrev pub is_sem_place : List (ℕ × Semaphore) → Place → Bool
is_sem_place ss p = p.side == object_side && is_some (object_of ss p.id)

-- the live places: those of the semaphores, and the live places of other kinds of objects
abbrev pub live_with : (Place → Bool) → List (ℕ × Semaphore) → Place → Bool
live_with others ss p = is_sem_place ss p || others p

-- ---- what semaphores read of the kernel
-- a wait is that of one of these tasks, or at a place where waits may begin
abbrev pub IsOldOr : (Place → Bool) → List Task → Option Place → Type 0
IsOldOr begins ts w = IfSome w (λ p. ((t : Task) × Contains ts t × (t.wait ≡ Some p)) ⊎ (begins p ≡ true))

-- from k to n, waits begin only at such places, and the next id doesn't fall
pub record BeginsOnly (begins : Place → Bool) (k n : KernState) : Type 0 where
  pub next : k.next_id ≤ n.next_id
  pub waits : All (λ u. IsOldOr begins k.tasks u.wait) n.tasks
