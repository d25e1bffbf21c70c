-- The rows of the calls that touch only the kernel's tasks and counters.
use Rattle.std.specs.Prelude.{ℕ, Bool, true, false, ◌+◌, ◌-◌, ◌%◌, ◌^◌, List, Option, None, Some, ◌==◌, if◌then◌else◌}
use Rattle.wind_base.specs.Limits.{ok_word}
use Rattle.wind_base.specs.declared.errno.Errno.{Errno}
use Rattle.wind_base.specs.declared.errno.Errno.TheVariants as errors
use Rattle.task_block.specs.declared.task.Task.{Task as TaskRecord}
use Rattle.board_mem.specs.Memory.{has, with_word}
use Rattle.wind_core.specs.State.{KernState, task_of, task_named}
use Rattle.wind_core.specs.Moves.{suspend, resume, set_locks, set_int_locked, delay}
use Rattle.kernel_world.specs.declared.actor.Actor.{Actor}
use Rattle.kernel_world.specs.declared.actor.Actor.TheVariants.{Task, Interrupt}
use Rattle.kernel_world.specs.declared.reply.Reply.{Reply}
use Rattle.kernel_world.specs.declared.reply.Reply.TheVariants.{Answer, Refusal, Later}

-- the kernel after the effect of a call, and how its caller is answered
pub record KernRow : Type 0 where
  pub kern : KernState
  pub reply : Reply

abbrev pub row_of : KernState → Reply → KernRow
row_of k r = record { kern = k; reply = r }

abbrev pub done : KernState → KernRow
done k = row_of k (Answer ok_word)

abbrev pub answers : KernState → ℕ → KernRow
answers k value = row_of k (Answer value)

abbrev pub refused : KernState → Errno → KernRow
refused k e = row_of k (Refusal e)

-- taskSuspend
abbrev pub suspend_row : KernState → Option ℕ → KernRow
suspend_row k None = refused k errors.ObjIdError
suspend_row k (Some id) = done (suspend k id)

-- taskResume
abbrev pub resume_row : KernState → Option ℕ → KernRow
resume_row k None = refused k errors.ObjIdError
resume_row k (Some id) = done (resume k id)

-- RAM after the effect of a call, and how its caller is answered
pub record RamRow : Type 0 where
  pub ram : List ℕ
  pub reply : Reply

abbrev pub ram_row : List ℕ → Reply → RamRow
ram_row ram r = record { ram = ram; reply = r }

-- taskPriorityGet: the priority of the task, if it lives, goes to a word of RAM
abbrev pub task_at : KernState → Option ℕ → Option TaskRecord
task_at k None = None
task_at k (Some id) = task_of k.tasks id

abbrev pub priority_in : List ℕ → ℕ → Option TaskRecord → RamRow
priority_in ram at None = ram_row ram (Refusal errors.ObjIdError)
priority_in ram at (Some t) =
    if has ram at 4 then ram_row (with_word ram at t.pri) (Answer ok_word) else ram_row ram (Refusal errors.BadAddress)

-- a call that only a task may make
abbrev pub by_task : KernState → Actor → (ℕ → KernRow) → KernRow
by_task k (Task who) f = f who
by_task k Interrupt f = refused k errors.NotIsrCallable

-- taskDelay: the answer comes when the delay ends, or at once for 0
abbrev pub delay_row : KernState → Actor → ℕ → KernRow
delay_row k a n = by_task k a (λ who. row_of (delay k who n) (if n == 0 then Answer ok_word else Later))

-- how often the task has locked the scheduler and not unlocked it
abbrev pub locks_in : Option TaskRecord → ℕ
locks_in None = 0
locks_in (Some t) = t.locks

abbrev pub locks_of : KernState → ℕ → ℕ
locks_of k who = locks_in (task_of k.tasks who)

-- taskLock and taskUnlock
abbrev pub lock_row : KernState → Actor → KernRow
lock_row k a = by_task k a (λ who. done (set_locks k who (locks_of k who + 1)))

abbrev pub unlock_row : KernState → Actor → KernRow
unlock_row k a = by_task k a (λ who. done (set_locks k who (locks_of k who - 1)))

-- taskIdSelf
abbrev pub self_row : KernState → Actor → KernRow
self_row k a = by_task k a (answers k)

-- taskIdVerify: no task has id 0
abbrev pub verify_row : KernState → Option ℕ → KernRow
verify_row k None = refused k errors.ObjIdError
verify_row k (Some id) = done k

-- taskNameToId: the task with the name that the string holds
abbrev pub found_row : KernState → Option TaskRecord → KernRow
found_row k None = refused k errors.TaskNotFound
found_row k (Some t) = answers k t.id

abbrev pub name_row : KernState → Option (List ℕ) → KernRow
name_row k None = refused k errors.BadAddress
name_row k (Some name) = found_row k (task_named k.tasks name)

-- kernelTimeSlice
abbrev pub slice_row : KernState → ℕ → KernRow
slice_row k n = done (record k { slice = n })

-- tickGet: the low word of the count
abbrev pub tick_row : KernState → KernRow
tick_row k = answers k (k.tick % 2 ^ 32)

-- ---- interrupts held back: a mark of the task, in force while it runs; an interrupt routine always holds them back
abbrev pub mark_of : Option TaskRecord → Bool
mark_of None = false
mark_of (Some t) = t.int_locked

abbrev pub mark_word : Bool → ℕ
mark_word on = if on then 1 else 0

-- intLock: answers the mark as it was
abbrev pub int_lock_row : KernState → Actor → KernRow
int_lock_row k (Task who) = answers (set_int_locked k who true) (mark_word (mark_of (task_of k.tasks who)))
int_lock_row k Interrupt = answers k 1

-- intUnlock: the mark becomes the lowest bit of the key
abbrev pub int_unlock_row : KernState → Actor → ℕ → KernRow
int_unlock_row k (Task who) key = done (set_int_locked k who (key % 2 == 1))
int_unlock_row k Interrupt key = done k

-- intContext
abbrev pub int_context_row : KernState → Actor → KernRow
int_context_row k (Task who) = answers k 0
int_context_row k Interrupt = answers k 1
