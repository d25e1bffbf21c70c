-- The invariant of waits for a deletion.
use Rattle.std.specs.Prelude.{◌≡◌, ℕ, ◌<◌, true, None, IfSome}
use Rattle.std.specs.List.{All}
use Rattle.id_table.specs.Sides.{deletion_side}
use Rattle.task_block.specs.declared.task.Task.{Task}
use Rattle.wind_core.specs.State.{KernState, task_of}
use Rattle.task_safety.specs.Safety.{safe_of}

-- if the task waits for the deletion of another, that one has the property, and the task will repeat its call
abbrev pub Deletes : (ℕ → Type 0) → Task → Type 0
Deletes Target t = IfSome t.wait (λ p. p.side ≡ deletion_side → Target p.id × (t.again ≡ true))

-- a live task in a safe section
abbrev pub IsSafe : KernState → ℕ → Type 0
IsSafe s who = 0 < safe_of (task_of s.tasks who)

-- each wait for a deletion names a live task in a safe section, and the waiting task will repeat its call
abbrev pub KeepsDeleters : KernState → Type 0
KeepsDeleters s = All (Deletes (IsSafe s)) s.tasks

-- the task with this id, if it is live, waits for nothing
abbrev pub WaitsForNothing : KernState → ℕ → Type 0
WaitsForNothing s who = IfSome (task_of s.tasks who) (λ t. t.wait ≡ None)
