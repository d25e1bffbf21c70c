-- What is inside the queue of ready tasks: a list for each priority, and a bit map of the priorities whose list isn't empty.
use Rattle.std.specs.Prelude.{◌≡◌, ℕ, suc, ◌<◌, List, [], ◌∷◌, ◌++◌, map, length}
use Rattle.linked_lists.specs.Chains.{chain_at}
use Rattle.ready_queue.specs.Map.{priorities, marked}

-- a cell of a list, as a task with the list's priority
abbrev pub task_in : ℕ → ℕ × Unit {0} → ℕ × ℕ
task_in pri c = (pri, c.0)

-- the tasks of the lists, one list after another; the first list has this priority
abbrev pub tasks_from : ℕ → List (List (ℕ × Unit {0})) → List (ℕ × ℕ)
tasks_from pri [] = []
tasks_from pri (c ∷ cs) = map (task_in pri) c ++ tasks_from (suc pri) cs

-- 1 if a list has a cell, otherwise 0
abbrev pub filled : List (ℕ × Unit {0}) → ℕ
filled [] = 0
filled (c ∷ cs) = 1

-- there is a list for each priority, and the bit of a priority is set exactly if its list isn't empty
pub record IsMapped (cs : List (List (ℕ × Unit {0}))) (words : List ℕ) : Type 0 where
  pub lists : length cs ≡ priorities
  pub bits : (pri : ℕ) → pri < priorities → marked words pri ≡ filled (chain_at cs pri)
