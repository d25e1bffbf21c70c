-- How the step of a task begins, and how a step that runs out of memory leaves everything as it was.
use Rattle.std.specs.Prelude.{◌≡◌, ℕ, List, Option, None, Some, ◌==◌, if◌then◌else◌}
use Rattle.wind_base.specs.declared.regs.Regs.{Regs}
use Rattle.task_block.specs.declared.task.Task.{Task}
use Rattle.wind_core.specs.State.{KernState, Lives, task_of}
use Rattle.wind_core.specs.Moves.{set_regs, unreserve}
use Rattle.live_loading.specs.KernelWorldObjects.{IsReady}
use Rattle.live_loading.specs.KernelWorldState.{WorldState}
use Rattle.live_loading.specs.KernelWorldKept.{IsWorld, IsEarly}
use Rattle.live_loading.specs.KernelWorldActor.TheVariants.{Task as by_task}
use Rattle.wind_machine.specs.Processor.{regs_of}

-- the task, if it is another than this one
abbrev pub if_other : ℕ → Option ℕ → Option ℕ
if_other who None = None
if_other who (Some last) = if last == who then None else Some last

-- a task with its registers
abbrev pub kept_with : Option Task → Option (ℕ × Regs)
kept_with None = None
kept_with (Some t) = Some (t.id, t.regs)

abbrev pub kept_if : List Task → Option ℕ → Option (ℕ × Regs)
kept_if ts None = None
kept_if ts (Some last) = kept_with (task_of ts last)

-- the task that ran last, if it is another than this one and lives
abbrev pub kept_of : KernState → ℕ → Option (ℕ × Regs)
kept_of k who = kept_if k.tasks (if_other who k.last)

-- the task has its registers again
abbrev pub put_back : KernState → Option (ℕ × Regs) → KernState
put_back k None = k
put_back k (Some kept) = set_regs k kept.0 kept.1

-- the world as it was before the step, with these bytes as its output
abbrev pub restored : WorldState → List ℕ → Option (ℕ × Regs) → WorldState
restored w bytes kept = record w { kern = put_back w.kern kept; output = bytes }

-- the kernel in which this task, if one is given, has no reservation
abbrev pub without : KernState → Option ℕ → KernState
without k None = k
without k (Some last) = unreserve k last

-- the invariant of a world, whose counters are far below their limits
pub record IsEarlyWorld (w : WorldState) : Type 0 where
  pub kept : IsWorld w
  pub early : IsEarly w

-- the beginning of a step keeps the invariant, whoever lives, and, of the task that makes the step, its registers
-- and that it is ready
pub record Readies (old new : WorldState) (who : ℕ) : Type 0 where
  pub early : IsEarlyWorld new
  pub lives : (id : ℕ) → Lives old.kern id → Lives new.kern id
  pub ready : IsReady old.kern who → IsReady new.kern who
  pub regs : regs_of new (by_task who) ≡ regs_of old (by_task who)
