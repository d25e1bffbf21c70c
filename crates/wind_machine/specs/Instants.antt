-- What holds at each instant of a run.
use Rattle.std.specs.Prelude.{◌≡◌, ℕ, ◌≤◌, true, Some, map}
use Rattle.std.specs.List.{All}
use Rattle.wind_base.specs.declared.profile.Profile.TheVariants.{Two}
use Rattle.task_block.specs.declared.task.Task.{Task}
use Rattle.wind_core.specs.State.{task_id}
use Rattle.wind_core.specs.Orders.{running}
use Rattle.wind_core.specs.Laws.{MayRun}
use Rattle.inheritance.specs.Mutexes.{both, held_count}
use Rattle.inheritance.specs.Reach.{boss, reaches, urgency, pri_of, normal_of, raised}
use Rattle.live_loading.specs.KernelWorldState.{WorldState}

-- if no interrupt routine is active, whoever runs lives and is ready, and no ready task comes before it, unless it
-- ran last and holds the lock
abbrev pub MostUrgentRuns : WorldState → Type 0
MostUrgentRuns w = (x : Task) → running w.kern ≡ Some x → MayRun w.kern x

-- each live owner of an inversion-safe mutex is at least as urgent as whoever waits for it, directly or through
-- further owners, in cycles too
abbrev pub OwnersInherit : WorldState → Type 0
OwnersInherit w = (n y x : ℕ) → reaches (boss w.kern.tasks w.objects.mutexes.rows) n y x ≡ true → pri_of w.kern.tasks x ≤ pri_of w.kern.tasks y

-- a live task that owns no inversion-safe mutex has its normal priority
abbrev pub OthersAreNormal : WorldState → Type 0
OthersAreNormal w = All (λ t. held_count w.objects.mutexes.rows t.id ≡ 0 → t.pri ≡ t.normal) w.kern.tasks

-- under profile 2 each live task has exactly the most urgent normal priority among itself and the tasks that reach it
abbrev pub InheritsExactly : WorldState → Type 0
InheritsExactly w = w.objects.mutexes.profile ≡ Two
    → All (λ t. t.pri ≡ urgency (boss w.kern.tasks w.objects.mutexes.rows) (normal_of w.kern.tasks) 256 (map task_id w.kern.tasks) t.id) w.kern.tasks

-- raising would change nothing: each task has the most urgent priority that it or a task that reaches it passes on
abbrev pub IsRaised : WorldState → Type 0
IsRaised w = raised (both w.kern w.objects.mutexes) ≡ both w.kern w.objects.mutexes

pub record IsInstant (w : WorldState) : Type 0 where
  pub urgency : MostUrgentRuns w
  pub inheritance : OwnersInherit w
  pub normal : OthersAreNormal w
  pub exact : InheritsExactly w
  pub raising : IsRaised w
