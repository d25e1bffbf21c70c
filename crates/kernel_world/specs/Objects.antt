-- The invariant of the objects other than the kernel's tasks, and of the waits for them.
use Rattle.std.specs.Prelude.{◌≡◌, ℕ, ◌==◌, ◌<◌, ◌≤◌, ◌&&◌, ◌||◌, Bool, true, List, [], length, None, IfSome, is_some}
use Rattle.std.specs.List.{All}
use Rattle.wind_base.specs.Boards.{board_rules}
use Rattle.wind_base.specs.Gates.{gate_address}
use Rattle.wind_base.specs.declared.board_kind.BoardKind.{BoardKind}
use Rattle.wind_base.specs.declared.gate.Gate.TheVariants as gates
use Rattle.wind_base.specs.declared.profile.Profile.{Profile}
use Rattle.id_table.specs.Rows.{object_of}
use Rattle.id_table.specs.Sides.{object_side, senders_side, deletion_side, console_side}
use Rattle.id_table.specs.declared.ident.Place.{Place}
use Rattle.task_block.specs.declared.task.Task.{Task}
use Rattle.task_block.specs.Standing.{is_ready}
use Rattle.wind_core.specs.State.{KernState, task_of}
use Rattle.sem_plain.specs.State.{both as with_semaphores}
use Rattle.sem_plain.specs.Kept.{KeepsSemaphores, WaitsLive, live_with}
use Rattle.sem_mutex.specs.TaskSafetyKept.{KeepsDeleters}
use Rattle.sem_mutex.specs.InheritanceMutexes.{AreMutexes, both as with_mutexes}
use Rattle.sem_mutex.specs.Kept.{KeepsMutexes}
use Rattle.msg_queue.specs.State.{scene}
use Rattle.msg_queue.specs.Kept.{IsKept}
use Rattle.kernel_world.specs.declared.objects.Objects.{Objects}

-- no object lives
abbrev pub no_objects : Profile → Objects
no_objects profile = record { semaphores = []; mutexes = record { profile = profile; rows = [] }; queues = record { queues = []; asks = [] } }

-- ---- waits
-- a side at which tasks wait for a queue: its receivers, and its senders
abbrev pub is_queue_side : ℕ → Bool
is_queue_side side = side == object_side || side == senders_side

-- the place is that of a mutex, of a queue, of a task to delete, or of the console
abbrev pub is_live_beside : Objects → Place → Bool
is_live_beside o p =
    p.side == object_side && is_some (object_of o.mutexes.rows p.id)
    || (is_queue_side p.side && is_some (object_of o.queues.queues p.id) || (p.side == deletion_side || p.side == console_side))

-- what is waited for at the place lives: a semaphore, or one of these
abbrev pub is_live : Objects → Place → Bool
is_live o p = live_with (is_live_beside o) o.semaphores p

-- the gate of taskDelete; a task that waits for a deletion is there, so that it repeats its call
abbrev pub deletion_gate : BoardKind → ℕ
deletion_gate board = gate_address (board_rules board).gates_start gates.TaskDelete

-- only the shell's task waits for the console, and a task that waits for a deletion is at the gate of taskDelete
pub record WaitsRight (board : BoardKind) (t : Task) : Type 0 where
  pub console : IfSome t.wait (λ p. p.side ≡ console_side → t.id ≡ 1)
  pub repeats : IfSome t.wait (λ p. p.side ≡ deletion_side → t.regs.pc ≡ deletion_gate board)

-- what each move of the kernel keeps by itself: the invariant of semaphores, that of tasks that wait to delete a
-- task, and that every wait is for something that lives
pub record KeepsWaits (board : BoardKind) (k : KernState) (o : Objects) : Type 0 where
  pub semaphores : KeepsSemaphores (with_semaphores k o.semaphores)
  pub deleters : KeepsDeleters k
  pub live : WaitsLive (is_live o) k
  pub right : All (WaitsRight board) k.tasks

-- ---- all, on a board of this kind
pub record KeepsObjects (board : BoardKind) (k : KernState) (o : Objects) : Type 0 where
  pub waits : KeepsWaits board k o
  pub mutexes : KeepsMutexes (with_mutexes k o.mutexes)
  pub table : AreMutexes o.mutexes.rows
  -- the queues, with any RAM of the board's size
  pub queues : (ram : List ℕ) → length ram ≡ (board_rules board).ram_bytes → IsKept (scene k o.queues ram)
  -- no queue has number 0
  pub queues_ranged : All (λ r. 0 < r.0) o.queues.queues
  -- no two objects of different kinds have the same id
  pub apart : All (λ r. object_of o.semaphores r.0 ≡ None) o.mutexes.rows
  pub queues_apart : All (λ r. (object_of o.semaphores r.0 ≡ None) × (object_of o.mutexes.rows r.0 ≡ None)) o.queues.queues

-- no mutex is owned more than n times
abbrev pub DepthsWithin : ℕ → Objects → Type 0
DepthsWithin n o = All (λ r. r.1.depth ≤ n) o.mutexes.rows

-- the task waits for nothing
abbrev pub IsFree : KernState → ℕ → Type 0
IsFree k who = IfSome (task_of k.tasks who) (λ t. t.wait ≡ None)

-- the task is ready, so it waits for nothing
abbrev pub IsReady : KernState → ℕ → Type 0
IsReady k who = IfSome (task_of k.tasks who) (λ t. is_ready t ≡ true)
