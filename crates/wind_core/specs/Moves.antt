-- What the kernel's calls do to its tasks.
use Rattle.std.specs.Prelude.{ℕ, ◌+◌, Bool, true, false, not, ◌&&◌, ◌||◌, ◌==◌, if◌then◌else◌, List, [], ◌∷◌, ◌++◌, length, slice_set, Option, None, Some}
use Rattle.std.specs.List.{fold}
use Rattle.std.specs.Option.{option_map}
use Rattle.wind_base.specs.Errno.{errno_number}
use Rattle.wind_base.specs.Limits.{most_tasks, error_word, wait_forever}
use Rattle.wind_base.specs.declared.errno.Errno.{Errno}
use Rattle.wind_base.specs.declared.errno.Errno.TheVariants as errors
use Rattle.wind_base.specs.declared.regs.Regs.{Regs}
use Rattle.id_table.specs.Rows.{add_refusal}
use Rattle.id_table.specs.Sides.{deletion_side, console_side}
use Rattle.id_table.specs.declared.ident.Place.{Place}
use Rattle.task_block.specs.declared.task.Task.{Task}
use Rattle.task_block.specs.declared.task.NewTask.{NewTask}
use Rattle.task_block.specs.Standing.{is_ready}
use Rattle.id_table.specs.Records.{change, without}
use Rattle.wind_core.specs.State.{KernState, task_id, task_of}
use Rattle.wind_core.specs.declared.settings.Setting.{Setting}
use Rattle.wind_core.specs.declared.settings.Setting.TheVariants as settings
use Rattle.wind_core.specs.Orders.{waiters}

-- ---- one task is changed
-- the task with this order number
abbrev pub renewed : ℕ → Task → Task
renewed since t = record t { since = since }

-- the task with this order number, if it is ready
abbrev pub settled : ℕ → Task → Task
settled since t = if is_ready t then renewed since t else t

-- f is applied to the task with this id
abbrev pub change_task : KernState → ℕ → (Task → Task) → KernState
change_task s who f = record s { tasks = change task_id s.tasks who f }

-- f is applied to the task, and it gets a new order number
abbrev pub renew_task : KernState → ℕ → (Task → Task) → KernState
renew_task s who f = record s {
  tasks = change task_id s.tasks who (λ t. renewed s.next_since (f t));
  next_since = s.next_since + 1;
}

-- f is applied to the task, and it gets a new order number if it is then ready
abbrev pub move_found : KernState → ℕ → (Task → Task) → Option Task → KernState
move_found s who f None = s
move_found s who f (Some t) = record s {
  tasks = change task_id s.tasks who (λ u. settled s.next_since (f u));
  next_since = s.next_since + (if is_ready (f t) then 1 else 0);
}

-- the same for the task with this id
abbrev pub move_task : KernState → ℕ → (Task → Task) → KernState
move_task s who f = move_found s who f (task_of s.tasks who)

-- ---- tasks come and go
-- a new task
abbrev pub new_task : ℕ → ℕ → NewTask → Task
new_task id since n = record {
  id = id;
  name = n.name;
  entry = n.entry;
  stack = n.stack;
  stack_size = n.stack_size;
  pri = n.pri;
  normal = n.pri;
  since = since;
  wait = None;
  fifo = false;
  wake = None;
  suspended = false;
  locks = 0;
  safe = 0;
  held = 0;
  int_locked = false;
  turns = 0;
  regs = n.regs;
  errno = 0;
  again = false;
}

-- the task is added under the next id
abbrev pub spawn : KernState → NewTask → KernState
spawn s n = record s {
  tasks = s.tasks ++ new_task s.next_id s.next_since n ∷ [];
  next_id = s.next_id + 1;
  next_since = s.next_since + 1;
}

-- why no task can be made: the limit of live tasks is reached, otherwise no id is left
abbrev pub spawn_refusal : KernState → Option Errno
spawn_refusal s = add_refusal most_tasks (length s.tasks) s.next_id

-- the task is removed
abbrev pub remove : KernState → ℕ → KernState
remove s who = record s { tasks = without task_id s.tasks who }

-- ---- waits
-- a wait for the deletion of a task or for the console has no timeout, and is in order of priority
abbrev pub is_endless : ℕ → Bool
is_endless side = side == deletion_side || side == console_side

-- the tick at which a wait at this side times out, from its timeout in ticks; none if it doesn't time out
abbrev pub wake_at : ℕ → ℕ → ℕ → Option ℕ
wake_at side tick n = if is_endless side || n == wait_forever then None else Some (tick + n)

-- the task waits at a place from now on
abbrev pub pended : Place → Bool → Option ℕ → Task → Task
pended place fifo wake t = record t {
  wait = Some place;
  fifo = fifo && not (is_endless place.side);
  wake = wake;
  turns = 0;
}

-- the task begins to wait at a place, with a timeout in ticks
abbrev pub pend : KernState → ℕ → Place → Bool → ℕ → KernState
pend s who place fifo n = renew_task s who (pended place fifo (wake_at place.side s.tick n))

-- the task is delayed by n ticks from now on; with 0, nothing changes
abbrev pub delayed : ℕ → ℕ → Task → Task
delayed tick n t = if n == 0 then t else record t { wake = Some (tick + n); turns = 0 }

-- the task is delayed by a number of ticks; with 0, it only goes after its equals
abbrev pub delay : KernState → ℕ → ℕ → KernState
delay s who n = renew_task s who (delayed s.tick n)

-- the task neither waits nor is delayed
abbrev pub released : Task → Task
released t = record t { wait = None; wake = None }

-- the task's wait or delay ends
abbrev pub release : KernState → ℕ → KernState
release s who = move_task s who released

-- the error number after a call, with an optional new one
abbrev pub errno_after : ℕ → Option Errno → ℕ
errno_after errno None = errno
errno_after errno (Some e) = errno_number e

-- the task neither waits nor is delayed, r3 has its call's result, and its error number is set if one is given
abbrev pub answered : ℕ → Option Errno → Task → Task
answered answer errno t = record (released t) {
  regs = record t.regs { gpr = slice_set t.regs.gpr 3 answer };
  errno = errno_after t.errno errno;
}

-- the task's wait or delay ends with a result
abbrev pub end_wait : KernState → ℕ → ℕ → Option Errno → KernState
end_wait s who answer errno = move_task s who (answered answer errno)

-- the waits of these tasks end with a result, one after the other
abbrev pub end_waits : KernState → List Task → ℕ → Option Errno → KernState
end_waits s ts answer errno = fold (λ r t. end_wait r t.id answer errno) s ts

-- the waits of all tasks at a place end with a result, in their order there
abbrev pub wake_all : KernState → Place → ℕ → Option Errno → KernState
wake_all s place answer errno = end_waits s (waiters s.tasks place) answer errno

-- ---- suspension and priority
-- the task is suspended, and its time slice ends
abbrev pub suspended : Task → Task
suspended t = record t { suspended = true; turns = 0 }

-- the task is suspended, and its time slice ends
abbrev pub suspend : KernState → ℕ → KernState
suspend s who = change_task s who suspended

-- the task's suspension ends
abbrev pub resumed : Task → Task
resumed t = record t { suspended = false }

-- a task is suspended
abbrev pub is_suspended : Option Task → Bool
is_suspended None = false
is_suspended (Some t) = t.suspended

-- the task's suspension ends; a task that isn't suspended stays as it is
abbrev pub resume : KernState → ℕ → KernState
resume s who = if is_suspended (task_of s.tasks who) then move_task s who resumed else s

-- the task with another priority
abbrev pub with_pri : ℕ → Task → Task
with_pri pri t = record t { pri = pri }

-- a task has this priority
abbrev pub has_pri : ℕ → Option Task → Bool
has_pri pri None = false
has_pri pri (Some t) = t.pri == pri

-- the task gets another priority; if that changes it and the task is ready, it goes after its new equals
abbrev pub change_pri : KernState → ℕ → ℕ → KernState
change_pri s who pri = if has_pri pri (task_of s.tasks who) then s else move_task s who (with_pri pri)

-- the task without suspension, scheduler locks, interrupt lock and mark of a repeated call
abbrev pub unmarked : Task → Task
unmarked t = record t { suspended = false; locks = 0; int_locked = false; again = false }

-- all of these are cleared, and the task gets a new order number
abbrev pub reset : KernState → ℕ → KernState
reset s who = renew_task s who unmarked

-- ---- one field
-- the number of the task's scheduler locks is set
abbrev pub set_locks : KernState → ℕ → ℕ → KernState
set_locks s who n = change_task s who (λ t. record t { locks = n })

-- the task's normal priority is set
abbrev pub set_normal : KernState → ℕ → ℕ → KernState
set_normal s who pri = change_task s who (λ t. record t { normal = pri })

-- the number of safe sections that the task is in is set
abbrev pub set_safe : KernState → ℕ → ℕ → KernState
set_safe s who n = change_task s who (λ t. record t { safe = n })

-- the number of inversion-safe mutexes that the task owns is set
abbrev pub set_held : KernState → ℕ → ℕ → KernState
set_held s who n = change_task s who (λ t. record t { held = n })

-- the task's error number is set
abbrev pub set_errno : KernState → ℕ → ℕ → KernState
set_errno s who n = change_task s who (λ t. record t { errno = n })

-- the task locks out interrupts, or no longer
abbrev pub set_int_locked : KernState → ℕ → Bool → KernState
set_int_locked s who on = change_task s who (λ t. record t { int_locked = on })

-- the task's next call is a repetition of a call that pended, or not
abbrev pub set_again : KernState → ℕ → Bool → KernState
set_again s who on = change_task s who (λ t. record t { again = on })

-- the task's registers are set
abbrev pub set_regs : KernState → ℕ → Regs → KernState
set_regs s who regs = change_task s who (λ t. record t { regs = regs })

-- ---- reservations (Power ISA, lwarx and stwcx.)
-- the task without a reservation
abbrev pub unreserved : Task → Task
unreserved t = record t { regs = record t.regs { reserve = None } }

-- the task's reservation is dropped
abbrev pub unreserve : KernState → ℕ → KernState
unreserve s who = change_task s who unreserved

-- ---- a call of the kernel
-- the task after its call: the program counter becomes the link register
abbrev pub past_gate : Task → Task
past_gate t = record t { regs = record t.regs { pc = t.regs.lr } }

-- the task returns from its call
abbrev pub leave_gate : KernState → ℕ → KernState
leave_gate s who = change_task s who past_gate

-- the result of the task's call, in r3
abbrev pub with_answer : ℕ → Task → Task
with_answer value t = record t { regs = record t.regs { gpr = slice_set t.regs.gpr 3 value } }

-- the task's call gets its result
abbrev pub answer : KernState → ℕ → ℕ → KernState
answer s who value = change_task s who (with_answer value)

-- the task's call is refused: its result is ERROR, and the task's error number is set
abbrev pub with_refusal : Errno → Task → Task
with_refusal e t = record (with_answer error_word t) { errno = errno_number e }

-- the task's call is refused
abbrev pub refuse : KernState → ℕ → Errno → KernState
refuse s who e = change_task s who (with_refusal e)

-- the task after a change that leaves it where it is in every queue
abbrev pub with_setting : Setting → Task → Task
with_setting (settings.Locks n) t = record t { locks = n }
with_setting (settings.Normal pri) t = record t { normal = pri }
with_setting (settings.Safe n) t = record t { safe = n }
with_setting (settings.Held n) t = record t { held = n }
with_setting (settings.Errno n) t = record t { errno = n }
with_setting (settings.IntLocked on) t = record t { int_locked = on }
with_setting (settings.Again on) t = record t { again = on }
with_setting (settings.Answer value) t = with_answer value t
with_setting (settings.Refusal e) t = with_refusal e t
with_setting settings.PastGate t = past_gate t
with_setting settings.Unreserved t = unreserved t

-- the id with this number, if its task is live; no task has id 0
abbrev pub live_id : List Task → ℕ → Option ℕ
live_id ts n = if n == 0 then None else option_map task_id (task_of ts n)
