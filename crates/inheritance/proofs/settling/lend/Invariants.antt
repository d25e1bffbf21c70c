use Rattle.std.proofs.Common.{◌≡◌, ℕ, ◌<◌, ◌-◌, get_or, length}
use Rattle.task_block.specs.declared.task.Task.{Task}
use Rattle.inheritance.specs.Reach.{boss, path}
use Rattle.inheritance.proofs.Lending.{lent}
use Rattle.inheritance.proofs.settling.lend.Given as goal

-- what is left of the path does to the goals what the whole path does to those at the start
abbrev pub invariant-loop-step : goal.invariant-loop-step
invariant-loop-step l =
    (i : ℕ) (d : Task) (e : ℕ) → i < length l.k.tasks
    → lent (path (boss l.k.tasks l.mutexes.rows) (l.steps - l.step) l.at) l.pri (get_or l.k.tasks i d).id (get_or l.goals i e)
    ≡ lent (path (boss l.k.tasks l.mutexes.rows) l.steps l.fn.who) l.pri (get_or l.k.tasks i d).id (get_or l.initial.goals i e)
