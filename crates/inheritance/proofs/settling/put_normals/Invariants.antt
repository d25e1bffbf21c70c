use Rattle.std.proofs.Common.{◌≡◌, ℕ, ◌<◌, get_or}
use Rattle.task_block.specs.declared.task.Task.{Task}
use Rattle.inheritance.proofs.settling.put_normals.Given as goal

abbrev pub invariant-loop-place : goal.invariant-loop-place
invariant-loop-place l = (i : ℕ) (d : Task) (e : ℕ) → i < l.place → get_or l.goals i e ≡ (get_or l.k.tasks i d).normal
