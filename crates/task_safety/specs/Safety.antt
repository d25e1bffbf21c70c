-- Safe sections, and what happens at their end (Reference Manual, taskSafe and taskUnsafe).
use Rattle.std.specs.Prelude.{ℕ, ◌+◌, ◌-◌, ◌==◌, ◌&&◌, nat_lt, nat_le, if◌then◌else◌, Option, None, Some}
use Rattle.wind_base.specs.declared.errno.Errno.{Errno}
use Rattle.wind_base.specs.declared.errno.Errno.TheVariants as errors
use Rattle.id_table.specs.Sides.{deletion_side}
use Rattle.id_table.specs.declared.ident.Place.{Place}
use Rattle.task_block.specs.declared.task.Task.{Task}
use Rattle.wind_core.specs.State.{KernState, task_of}
use Rattle.wind_core.specs.Moves.{set_safe}
use Rattle.wind_core.specs.Releases.{release_all}

-- the place at which tasks wait to delete a task
abbrev pub deletion : ℕ → Place
deletion who = record { side = deletion_side; id = who }

-- the number of safe sections that a task is in
abbrev pub safe_of : Option Task → ℕ
safe_of None = 0
safe_of (Some t) = t.safe

-- one more safe section of the task begins
abbrev pub make_safe : KernState → ℕ → KernState
make_safe s who = set_safe s who (safe_of (task_of s.tasks who) + 1)

-- n of the task's safe sections end; if that ends the last one, all tasks that wait to delete it go on
abbrev pub lessened : KernState → ℕ → ℕ → ℕ → KernState
lessened s who n count =
    if nat_lt 0 count && nat_le count n then release_all (set_safe s who (count - n)) (deletion who)
    else set_safe s who (count - n)

-- n of the task's safe sections end, or all of them if it is in fewer
abbrev pub lessen : KernState → ℕ → ℕ → KernState
lessen s who n = lessened s who n (safe_of (task_of s.tasks who))

-- the task is in no safe section, so none can end
abbrev pub unsafe_refusal : Option Task → Option Errno
unsafe_refusal o = if safe_of o == 0 then Some errors.NotSafe else None
