-- What a trace sees of a task and of a watchdog.
use Rattle.std.specs.Prelude.{ℕ, Option, slice_index}
use Rattle.task_block.specs.declared.task.Task.{Task}
use Rattle.isr_watch.specs.declared.watchdog.Watchdog.{Watchdog}
use Rattle.board_changes.specs.declared.awaited.Awaited.{Awaited}
use Rattle.board_changes.specs.declared.view.TaskView.{TaskView}
use Rattle.board_changes.specs.declared.view.WatchdogView.{WatchdogView}

-- the view of a task, given what it waits for: what is shown of its record, and r3, which has the result of a call
abbrev pub view_of_task : Option Awaited → Task → TaskView
view_of_task wait t = record {
  id = t.id;
  name = t.name;
  pri = t.pri;
  normal = t.normal;
  since = t.since;
  wait = wait;
  wake = t.wake;
  suspended = t.suspended;
  answer = slice_index t.regs.gpr 3;
  errno = t.errno;
}

-- the view of a watchdog
abbrev pub view_of_watchdog : Watchdog → WatchdogView
view_of_watchdog w = record { id = w.id; timer = w.timer }

-- the ids of views
abbrev pub task_id : TaskView → ℕ
task_id v = v.id

abbrev pub watchdog_id : WatchdogView → ℕ
watchdog_id v = v.id
