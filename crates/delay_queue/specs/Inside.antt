-- What is inside the queue: one list, in which each task stores the gap to the task before it, in ticks.
use Rattle.std.specs.Prelude.{◌≡◌, ℕ, ◌+◌, ◌-◌, ◌<◌, ◌^◌, Bool, if◌then◌else◌, List, [], ◌∷◌, ◌++◌, length, Option, None, Some}
use Rattle.std.specs.List.{All}
use Rattle.linked_lists.specs.Chains.{Chains, chain_at, first_key, first_value, value_of, with_value}

-- the tasks of a list with their wakes; the first task stores the ticks after this one
abbrev pub wakes_from : ℕ → List (ℕ × ℕ) → List (ℕ × ℕ)
wakes_from tick [] = []
wakes_from tick (c ∷ cs) = (c.0, tick + c.1) ∷ wakes_from (tick + c.1) cs

-- the sum of the gaps of a list: the ticks from before the first wake to the last
abbrev pub total : List (ℕ × ℕ) → ℕ
total [] = 0
total (c ∷ cs) = c.1 + total cs

-- the last wake after a task with this gap, the last task or another, was removed
abbrev pub last_left : ℕ → Bool → ℕ → ℕ
last_left last was_last gap = if was_last then last - gap else last

-- there is one list, and each wake is a number of 64 bits
pub record IsTimed (cs : List (List (ℕ × ℕ))) : Type 0 where
  pub one : length cs ≡ 1
  pub wakes : All (λ t. t.1 < 2 ^ 64) (wakes_from 0 (chain_at cs 0))

-- the position of a wake: after all tasks with that wake or an earlier one, and the given number of ticks after the last of them
pub record IsPosition (c : List (ℕ × ℕ)) (wake : ℕ) (next : Option ℕ) (left : ℕ) : Type 0 where
  pub prefix : List (ℕ × ℕ)
  pub back : List (ℕ × ℕ)
  pub whole : c ≡ prefix ++ back
  pub next_is : next ≡ first_key back
  pub sum : total prefix + left ≡ wake
  pub later : (gap : ℕ) → first_value back ≡ Some gap → left < gap

-- the list with another gap before a task, if the task has a gap
abbrev pub gap_put : Chains ℕ → ℕ → (ℕ → ℕ) → Option ℕ → Chains ℕ
gap_put t id f None = t
gap_put t id f (Some gap) = with_value t id (f gap)

-- the list with another gap before a task, if there is one
abbrev pub with_gap : Chains ℕ → Option ℕ → (ℕ → ℕ) → Chains ℕ
with_gap t None f = t
with_gap t (Some id) f = gap_put t id f (value_of t.chains id)
