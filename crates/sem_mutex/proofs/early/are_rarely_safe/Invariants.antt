use Rattle.std.proofs.Common.{ℕ, ◌<◌, ◌^◌, get_or}
use Rattle.task_block.specs.declared.task.Task.{Task}
use Rattle.sem_mutex.proofs.early.are_rarely_safe.Given as goal

abbrev pub invariant-loop-at : goal.invariant-loop-at
invariant-loop-at l = (i : ℕ) (d : Task) → i < l.at → (get_or l.k.tasks i d).safe < 2 ^ 61
