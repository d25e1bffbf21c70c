-- A tick of the clock: the tick count, the running task's time slice, and the tasks whose wake has come.
use Rattle.std.specs.Prelude.{ℕ, ◌+◌, Bool, false, ◌==◌, nat_le, if◌then◌else◌, Option, None, Some, is_some}
use Rattle.std.specs.List.{fold}
use Rattle.wind_base.specs.Limits.{error_word, ok_word}
use Rattle.wind_base.specs.declared.errno.Errno.{Errno}
use Rattle.wind_base.specs.declared.errno.Errno.TheVariants as errors
use Rattle.task_block.specs.declared.task.Task.{Task}
use Rattle.id_table.specs.Records.{change}
use Rattle.wind_core.specs.declared.clock.Late.{Late}
use Rattle.wind_core.specs.State.{KernState, task_id}
use Rattle.wind_core.specs.Orders.{running, due}
use Rattle.wind_core.specs.Moves.{renewed, end_wait}

-- one more tick of a time slice; if that ends it, a new one begins, and the task gets a new order number
abbrev pub slice_counted : ℕ → ℕ → Task → Task
slice_counted slice since t =
    if nat_le slice (t.turns + 1) then renewed since (record t { turns = 0 })
    else record t { turns = t.turns + 1 }

-- one more tick of the time slice of this task
abbrev pub count_found_slice : KernState → Task → KernState
count_found_slice s t = record s {
  tasks = change task_id s.tasks t.id (slice_counted s.slice s.next_since);
  next_since = s.next_since + (if nat_le s.slice (t.turns + 1) then 1 else 0);
}

-- a task that holds no lock
abbrev pub is_free : Option Task → Bool
is_free None = false
is_free (Some t) = t.locks == 0

-- the time slice of a task that holds the scheduler lock isn't counted
abbrev pub count_slice_of : KernState → Option Task → KernState
count_slice_of s None = s
count_slice_of s (Some t) = if t.locks == 0 then count_found_slice s t else s

-- one more tick of the running task's time slice; with a slice of 0, time slices aren't counted (Reference Manual, kernelTimeSlice)
abbrev pub count_slice : KernState → KernState
count_slice s = if s.slice == 0 then s else count_slice_of s (running s)

-- a wait that times out has the result ERROR and the error OBJ_TIMEOUT, a delay has the result 0
abbrev pub late_answer : Bool → ℕ
late_answer waits = if waits then error_word else ok_word

-- the error number of a wait that times out; a delay has none
abbrev pub late_errno : Bool → Option Errno
late_errno waits = if waits then Some errors.ObjTimeout else None

-- the wait or delay of a task whose wake has come ends
abbrev pub time_out : KernState → Task → KernState
time_out s t = end_wait s t.id (late_answer (is_some t.wait)) (late_errno (is_some t.wait))

-- a task whose wake has come, and whether it waits for something
abbrev pub late_of : Task → Late
late_of t = record { who = t.id; waits = is_some t.wait }

-- the tasks whose wake has come go on, in order of arrival
abbrev pub wake_due : KernState → ℕ → KernState
wake_due s tick = fold time_out s (due s.tasks tick)

-- the tick count rises by 1
abbrev pub tick_counted : KernState → KernState
tick_counted s = record s { tick = s.tick + 1 }

-- a tick: the count rises, the running task's time slice is one tick longer, and the tasks whose wake has come go on
abbrev pub tick : KernState → KernState
tick s = wake_due (count_slice (tick_counted s)) (s.tick + 1)
