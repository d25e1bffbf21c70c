-- What the kernel notes of all its tasks, so that it needn't look at each of them.
use Rattle.std.specs.Prelude.{◌≡◌, ℕ, Bool, true, List}
use Rattle.std.specs.List.{All}
use Rattle.task_block.specs.declared.task.Task.{Task}

-- each task has its normal priority
abbrev pub AllNormal : List Task → Type 0
AllNormal ts = All (λ t. t.pri ≡ t.normal) ts

-- no task owns an inversion-safe mutex
abbrev pub NoneHolds : List Task → Type 0
NoneHolds ts = All (λ t. t.held ≡ 0) ts

-- what is noted is so of this task
pub record IsNoted (all_normal none_holds : Bool) (t : Task) : Type 0 where
  pub normal : all_normal ≡ true → t.pri ≡ t.normal
  pub held : none_holds ≡ true → t.held ≡ 0

-- what is noted is so of each task
abbrev pub AreNoted : Bool → Bool → List Task → Type 0
AreNoted all_normal none_holds ts = All (IsNoted all_normal none_holds) ts

-- the fields that the notes are about
abbrev pub marks : Task → ℕ × ℕ × ℕ
marks t = (t.pri, t.normal, t.held)
