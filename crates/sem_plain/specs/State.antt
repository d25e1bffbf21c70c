-- What a contract sees of binary and counting semaphores, together with the kernel's tasks.
use Rattle.std.specs.Prelude.{◌==◌, ℕ, ◌<◌, ◌^◌, Bool, true, false, nat_le, if◌then◌else◌, List, Option, None, Some}
use Rattle.wind_base.specs.declared.semaphore.SemKind.{SemKind}
use Rattle.wind_base.specs.declared.semaphore.SemKind.TheVariants as kinds
use Rattle.id_table.specs.Rows.{object_of}
use Rattle.id_table.specs.Sides.{object_side}
use Rattle.id_table.specs.declared.ident.Place.{Place}
use Rattle.wind_core.specs.State.{KernState}
use Rattle.sem_plain.specs.declared.semaphore.Semaphore.{Semaphore}

-- the kernel's tasks and counters, and the live semaphores with their ids, by rising id
pub record SemState : Type 0 where
  pub kern : KernState
  pub semaphores : List (ℕ × Semaphore)

-- the kernel and the semaphores together
abbrev pub both : KernState → List (ℕ × Semaphore) → SemState
both k ss = record { kern = k; semaphores = ss }

-- the place at which tasks wait for the semaphore with an id
abbrev pub sem_place : ℕ → Place
sem_place id = record { side = object_side; id = id }

-- the live semaphore that a wait is for, if it is for one
abbrev pub semaphore_at : List (ℕ × Semaphore) → Option Place → Option Semaphore
semaphore_at ss None = None
semaphore_at ss (Some p) = if p.side == object_side then object_of ss p.id else None

-- a binary semaphore's count is 0 or 1, a counting one's any; a mutex has no count
abbrev pub may_hold : SemKind → ℕ → Bool
may_hold kinds.Binary n = nat_le n 1
may_hold kinds.Counting n = true
may_hold kinds.Mutex n = false

-- order numbers and ticks are far from overflow
pub record IsEarly (k : KernState) : Type 0 where
  pub sinces : k.next_since < 2 ^ 62
  pub ticks : k.tick < 2 ^ 62
