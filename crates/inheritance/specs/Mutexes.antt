-- What a contract sees of the mutexes, together with the kernel's tasks.
use Rattle.std.specs.Prelude.{ℕ, Bool, false, ◌==◌, ◌&&◌, List, Option, None, Some}
use Rattle.std.specs.List.{count_by}
use Rattle.wind_base.specs.Limits.{most_mutexes}
use Rattle.wind_base.specs.declared.profile.Profile.{Profile}
use Rattle.id_table.specs.Rows.{IsTable}
use Rattle.id_table.specs.Sides.{object_side}
use Rattle.id_table.specs.declared.ident.Place.{Place}
use Rattle.wind_core.specs.State.{KernState}
use Rattle.inheritance.specs.declared.mutex.Mutex.{Mutex}

-- the rule by which owners inherit, and the live mutexes with their ids, by rising id
pub record LiveMutexes : Type 0 where
  pub profile : Profile
  pub rows : List (ℕ × Mutex)

-- the kernel's tasks and counters, the rule of inheritance, and the live mutexes
pub record MutexState : Type 0 where
  pub kern : KernState
  pub profile : Profile
  pub mutexes : List (ℕ × Mutex)

-- the kernel and the mutexes together
abbrev pub both : KernState → LiveMutexes → MutexState
both kern live = record { kern = kern; profile = live.profile; mutexes = live.rows }

-- the invariant of the list of mutexes: at most as many as allowed, by rising id, and each id is valid
abbrev pub AreMutexes : List (ℕ × Mutex) → Type 0
AreMutexes ms = IsTable (record { rows = ms; room = most_mutexes })

-- the place at which tasks wait for a mutex
abbrev pub mutex_place : ℕ → Place
mutex_place id = record { side = object_side; id = id }

-- an optional id is this one
abbrev pub is_id : ℕ → Option ℕ → Bool
is_id who None = false
is_id who (Some o) = o == who

-- the owner of a mutex, if there is a mutex and it has an owner
abbrev pub owner_in : Option Mutex → Option ℕ
owner_in None = None
owner_in (Some m) = m.owner

-- the task owns this inversion-safe mutex
abbrev pub holds : ℕ → Mutex → Bool
holds who m = m.inversion_safe && is_id who m.owner

-- the number of inversion-safe mutexes that the task owns
abbrev pub held_count : List (ℕ × Mutex) → ℕ → ℕ
held_count ms who = count_by (λ r. holds who r.1) ms
