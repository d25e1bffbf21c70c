-- The priorities that tasks get under profile 2, at the places of the tasks.
use Rattle.std.specs.Prelude.{◌≡◌, ℕ, ◌<◌, cond, nat_lt, min, List, map, length, slice_index_or}
use Rattle.std.specs.List.{filter}
use Rattle.task_block.specs.declared.task.Task.{Task}
use Rattle.wind_core.specs.State.{task_id}
use Rattle.inheritance.specs.Reach.{is_on}

-- the tasks that own inversion-safe mutexes
abbrev pub owner_ids : List Task → List ℕ
owner_ids ts = map task_id (filter (λ t. nat_lt 0 t.held) ts)

-- each task's place has its goal
abbrev pub AreGoals : List Task → List ℕ → (ℕ → ℕ) → Type 0
AreGoals ts goals goal = (i : ℕ) (d : Task) (e : ℕ) → i < length ts → slice_index_or goals i e ≡ goal (slice_index_or ts i d).id

-- the places of these tasks have the more urgent of a priority and what was there, and the others stay
abbrev pub AreLent : List Task → List ℕ → ℕ → List ℕ → List ℕ → Type 0
AreLent ts ids pri before after = (i : ℕ) (d : Task) (e : ℕ) → i < length ts
    → slice_index_or after i e
    ≡ cond (is_on ids (slice_index_or ts i d).id) (min pri (slice_index_or before i e)) (slice_index_or before i e)
