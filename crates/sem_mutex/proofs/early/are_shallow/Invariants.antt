use Rattle.std.proofs.Common.{ℕ, ◌<◌, ◌^◌, get_or}
use Rattle.inheritance.specs.declared.mutex.Mutex.{Mutex}
use Rattle.sem_mutex.proofs.early.are_shallow.Given as goal

abbrev pub invariant-loop-at : goal.invariant-loop-at
invariant-loop-at l = (i : ℕ) (d : ℕ × Mutex) → i < l.at → (get_or l.table.rows i d).1.depth < 2 ^ 61
