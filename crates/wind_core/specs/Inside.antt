-- What is inside the kernel: a table of task records by id, where each record also has its id.
use Rattle.std.specs.Prelude.{◌≡◌, ℕ, List, Option}
use Rattle.std.specs.List.{All}
use Rattle.id_table.specs.Rows.{objects}
use Rattle.id_table.specs.Source.{Ids}
use Rattle.task_block.specs.declared.task.Task.{Task}
use Rattle.wind_core.specs.State.{KernState}

-- each record has the id under which the table has it
abbrev pub SameIds : List (ℕ × Task) → Type 0
SameIds rs = All (λ r. r.1.id ≡ r.0) rs

-- the kernel's state, from a table's rows, the source of ids and the counters
abbrev pub kern_state : List (ℕ × Task) → Ids → ℕ → ℕ → ℕ → Option ℕ → KernState
kern_state rows ids next_since tick slice last = record {
  tasks = objects rows;
  tick = tick;
  slice = slice;
  next_id = ids.next;
  lent = ids.lent;
  next_since = next_since;
  last = last;
}
