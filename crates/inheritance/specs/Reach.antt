-- Which task waits for which, and the priority that each task gets from the tasks that wait for it.
use Rattle.std.specs.Prelude.{◌≡◌, ℕ, zero, suc, Bool, cond, ◌==◌, nat_lt, if◌then◌else◌, min, List, [], ◌∷◌, map, Option, None, Some, is_some}
use Rattle.std.specs.List.{All, filter, fold, list_any}
use Rattle.wind_base.specs.declared.profile.Profile.{Profile}
use Rattle.wind_base.specs.declared.profile.Profile.TheVariants.{One, Two}
use Rattle.id_table.specs.Rows.{object_of}
use Rattle.id_table.specs.declared.ident.Place.{Place}
use Rattle.task_block.specs.declared.task.Task.{Task}
use Rattle.wind_core.specs.State.{KernState, task_id, task_of}
use Rattle.wind_core.specs.Moves.{change_pri}
use Rattle.inheritance.specs.declared.mutex.Mutex.{Mutex}
use Rattle.inheritance.specs.Mutexes.{MutexState}

-- ---- which task waits for which
-- the mutex that a wait is for, if it is for one
abbrev pub mutex_at : List (ℕ × Mutex) → Option Place → Option Mutex
mutex_at ms None = None
mutex_at ms (Some p) = if p.side == 0 then object_of ms p.id else None

-- the owner, live or ended, of a mutex whose owner inherits priorities
abbrev pub lent_to : Option Mutex → Option ℕ
lent_to None = None
lent_to (Some m) = if m.inversion_safe then m.owner else None

-- the owner, live or ended, of the inversion-safe mutex that a wait is for
abbrev pub owner_at : List (ℕ × Mutex) → Option Place → Option ℕ
owner_at ms w = lent_to (mutex_at ms w)

-- the place at which a task waits
abbrev pub wait_of : Option Task → Option Place
wait_of None = None
wait_of (Some t) = t.wait

-- an optional id, if its task is live
abbrev pub live_one : List Task → Option ℕ → Option ℕ
live_one ts None = None
live_one ts (Some id) = if is_some (task_of ts id) then Some id else None

-- the live owner of the inversion-safe mutex that the task waits for
abbrev pub boss : List Task → List (ℕ × Mutex) → ℕ → Option ℕ
boss ts ms y = live_one ts (owner_at ms (wait_of (task_of ts y)))

-- the boss, its boss and so on, for at most n tasks
abbrev pub path : (ℕ → Option ℕ) → ℕ → ℕ → List ℕ
path up zero y = []
path up (suc n) y = elim (up y) [ None ↦ [] | Some x ↦ x ∷ path up n x ]

-- a number is in a list
abbrev pub is_on : List ℕ → ℕ → Bool
is_on xs x = list_any (λ y. y == x) xs

-- y waits for x, through at most n owners
abbrev pub reaches : (ℕ → Option ℕ) → ℕ → ℕ → ℕ → Bool
reaches up n y x = is_on (path up n y) x

-- ---- priorities
-- a task that isn't live is less urgent than any other
abbrev pub pri_in : Option Task → ℕ
pri_in None = 256
pri_in (Some t) = t.pri

-- the priority of the task with an id
abbrev pub pri_of : List Task → ℕ → ℕ
pri_of ts id = pri_in (task_of ts id)

-- the same of normal priorities
abbrev pub normal_in : Option Task → ℕ
normal_in None = 256
normal_in (Some t) = t.normal

abbrev pub normal_of : List Task → ℕ → ℕ
normal_of ts id = normal_in (task_of ts id)

-- the priority that a task passes on: under profile 1 its current one, under profile 2 its normal one
abbrev pub lent_pri : Profile → List Task → ℕ → ℕ
lent_pri One ts = pri_of ts
lent_pri Two ts = normal_of ts

-- the most urgent of these priorities
abbrev pub most : ℕ → List ℕ → ℕ
most p [] = p
most p (q ∷ qs) = min q (most p qs)

-- the most urgent priority of the task and of those that reach it
abbrev pub urgency : (ℕ → Option ℕ) → (ℕ → ℕ) → ℕ → List ℕ → ℕ → ℕ
urgency up pri n ids x = most (pri x) (map pri (filter (λ y. reaches up n y x) ids))

-- the same for a live task, through at most 256 owners
abbrev pub lifted : Profile → KernState → List (ℕ × Mutex) → ℕ → ℕ
lifted p k ms x = urgency (boss k.tasks ms) (lent_pri p k.tasks) 256 (map task_id k.tasks) x

-- each task of a list gets its priority, in order
abbrev pub repried : KernState → (ℕ → ℕ) → List Task → KernState
repried k goal ts = fold (λ r t. change_pri r t.id (goal t.id)) k ts

-- each live task gets the most urgent priority that it or a task that reaches it passes on
abbrev pub raised_kern : Profile → KernState → List (ℕ × Mutex) → KernState
raised_kern p k ms = repried k (lifted p k ms) k.tasks

-- raising: each live task gets the most urgent priority of itself and of all tasks that reach it
abbrev pub raised : MutexState → MutexState
raised s = record s { kern = raised_kern s.profile s.kern s.mutexes }

-- each live task has exactly that priority; so under profile 2 it has the most urgent normal priority among itself
-- and the tasks that reach it
abbrev pub IsExact : MutexState → Type 0
IsExact s = All (λ t. t.pri ≡ lifted s.profile s.kern s.mutexes t.id) s.kern.tasks

-- the longest prefix of a list whose elements pass the test
abbrev pub prefix_while : (ℕ → Bool) → List ℕ → List ℕ
prefix_while test [] = []
prefix_while test (x ∷ xs) = cond (test x) (x ∷ prefix_while test xs) []

-- ---- which task inherits next
-- the owner, if it is less urgent than p
abbrev pub heir_of : List Task → ℕ → Option ℕ → Option ℕ
heir_of ts p None = None
heir_of ts p (Some x) = if nat_lt p (pri_of ts x) then Some x else None

-- the live owner that y waits for, if it is less urgent than p
abbrev pub heir : List Task → List (ℕ × Mutex) → ℕ → ℕ → Option ℕ
heir ts ms p y = heir_of ts p (boss ts ms y)
