-- The walk from owner to owner, and the priorities after raising.
use Rattle.std.specs.Prelude.{◌≡◌, ℕ, ◌≤◌, cond, nat_lt, true, length, map, List, Option, None, Some}
use Rattle.wind_base.specs.declared.profile.Profile.TheVariants.{One, Two}
use Rattle.id_table.specs.declared.ident.Place.{Place}
use Rattle.std.specs.List.{All, Contains}
use Rattle.task_block.specs.declared.task.Task.{Task}
use Rattle.wind_core.specs.State.{IsKern, Lives, task_id}
use Rattle.inheritance.specs.declared.mutex.Mutex.{Mutex}
use Rattle.inheritance.specs.Mutexes.{MutexState}
use Rattle.inheritance.specs.Reach.{boss, owner_at, pri_of, lent_pri, raised, IsExact, path, is_on, urgency, prefix_while}

-- each owner is at least as urgent as its waiters, except the waiter w
abbrev pub GoodBut : (ℕ → Option ℕ) → (ℕ → ℕ) → ℕ → Type 0
GoodBut up pri w = (y x : ℕ) → (y ≡ w → ⊥) → up y ≡ Some x → pri x ≤ pri y

-- the owners on the path of w before the first that is at least as urgent as w get w's priority, and no other priority changes
abbrev pub WalkLaw : Type 0
WalkLaw = (up : ℕ → Option ℕ) (pri : ℕ → ℕ) (w n : ℕ) (ids : List ℕ) → GoodBut up pri w → Contains ids w
    → (x : ℕ)
    → urgency up pri n ids x ≡ cond (is_on (prefix_while (λ z. nat_lt (pri w) (pri z)) (path up n w)) x) (pri w) (pri x)

-- all tasks that a task waits for are among these
abbrev pub StaysIn : (ℕ → Option ℕ) → List ℕ → Type 0
StaysIn up ids = (y x : ℕ) → up y ≡ Some x → is_on ids x ≡ true

-- if a walk can be as long as there are tasks, an owner is at least as urgent as each of its waiters, also in a cycle
abbrev pub OwnerLaw : Type 0
OwnerLaw = (up : ℕ → Option ℕ) (pri : ℕ → ℕ) (n : ℕ) (ids : List ℕ) → StaysIn up ids → length ids ≤ n
    → (y x : ℕ) → up y ≡ Some x → Contains ids y → urgency up pri n ids x ≤ urgency up pri n ids y

-- each live owner of an inversion-safe mutex is at least as urgent as each of its waiters
abbrev pub OwnersUrgent : List (ℕ × Mutex) → List Task → Type 0
OwnersUrgent ms ts = All (λ y. All (λ x. owner_at ms y.wait ≡ Some x.id → x.pri ≤ y.pri) ts) ts

-- the same, except for the waiter w
abbrev pub OwnersUrgentBut : ℕ → List (ℕ × Mutex) → List Task → Type 0
OwnersUrgentBut w ms ts = All (λ y. (y.id ≡ w → ⊥) → All (λ x. owner_at ms y.wait ≡ Some x.id → x.pri ≤ y.pri) ts) ts

-- a task whose count of owned mutexes is 0 owns no inversion-safe mutex that a task can wait for
abbrev pub OwnersHold : List (ℕ × Mutex) → List Task → Type 0
OwnersHold ms ts = All (λ t. t.held ≡ 0 → (w : Option Place) → owner_at ms w ≡ Some t.id → ⊥) ts

-- no task waits for a live owner of an inversion-safe mutex, whichever mutexes there are
abbrev pub NobodyWaits : List Task → Type 0
NobodyWaits ts = (ms : List (ℕ × Mutex)) → OwnersHold ms ts → (y : ℕ) → boss ts ms y ≡ None

-- after raising, each live owner is at least as urgent as its waiters
abbrev pub RaisedLaw : Type 0
RaisedLaw = (s : MutexState) → IsKern s.kern → OwnersUrgent s.mutexes (raised s).kern.tasks

-- if each was so before, raising under profile 1 changes nothing
abbrev pub SameLaw : Type 0
SameLaw = (s : MutexState) → s.profile ≡ One → IsKern s.kern → OwnersUrgent s.mutexes s.kern.tasks → raised s ≡ s

-- after raising, priorities are exact
abbrev pub ExactLaw : Type 0
ExactLaw = (s : MutexState) → IsKern s.kern → IsExact (raised s)

-- if they were exact before, raising changes nothing
abbrev pub ExactSameLaw : Type 0
ExactSameLaw = (s : MutexState) → IsKern s.kern → IsExact s → raised s ≡ s

-- if priorities are exact, each live owner is at least as urgent as its waiters
abbrev pub ExactUrgentLaw : Type 0
ExactUrgentLaw = (s : MutexState) → IsKern s.kern → IsExact s → OwnersUrgent s.mutexes s.kern.tasks

-- under profile 2, if they are exact, no task is less urgent than its normal priority, and one that owns no
-- inversion-safe mutex has its normal priority
pub record ExactNormal (ts : List Task) : Type 0 where
  pub raised : All (λ t. t.pri ≤ t.normal) ts
  pub normal : All (λ t. t.held ≡ 0 → t.pri ≡ t.normal) ts

abbrev pub ExactNormalLaw : Type 0
ExactNormalLaw = (s : MutexState) → s.profile ≡ Two → IsKern s.kern → OwnersHold s.mutexes s.kern.tasks → IsExact s
    → ExactNormal s.kern.tasks

-- raising gives each live task the priority that the walk law names, by the bosses and priorities before
abbrev pub UrgencyLaw : Type 0
UrgencyLaw = (s : MutexState) (x : ℕ) → Lives s.kern x
    → pri_of (raised s).kern.tasks x
    ≡ urgency (boss s.kern.tasks s.mutexes) (lent_pri s.profile s.kern.tasks) 256 (map task_id s.kern.tasks) x

-- if each owner is at least as urgent as its waiters, except the waiter w, the premise of the walk law holds for bosses and priorities
abbrev pub PremiseLaw : Type 0
PremiseLaw = (w : ℕ) (ms : List (ℕ × Mutex)) (ts : List Task) → OwnersUrgentBut w ms ts → GoodBut (boss ts ms) (pri_of ts) w

-- so raising under profile 1 gives w's priority to the live owners on its path before the first that is at least as
-- urgent, and changes no other priority
abbrev pub HeirsLaw : Type 0
HeirsLaw = (s : MutexState) (w x : ℕ) → s.profile ≡ One → OwnersUrgentBut w s.mutexes s.kern.tasks → Lives s.kern w → Lives s.kern x
    → pri_of (raised s).kern.tasks x
    ≡ cond (is_on (prefix_while (λ z. nat_lt (pri_of s.kern.tasks w) (pri_of s.kern.tasks z))
    (path (boss s.kern.tasks s.mutexes) 256 w)) x)
    (pri_of s.kern.tasks w) (pri_of s.kern.tasks x)
