-- The snapshot of a world, and what is read of a state after a step.
use Rattle.std.specs.Prelude.{map, length, slice_index, Option}
use Rattle.std.specs.Option.{option_map}
use Rattle.id_table.specs.Rows.{ids}
use Rattle.wind_base.specs.declared.regs.Regs.{Regs}
use Rattle.task_block.specs.declared.task.Task.{Task}
use Rattle.kernel_world.specs.State.{WorldState}
use Rattle.kernel_world.specs.declared.objects.Objects.{Objects}
use Rattle.kernel_world.specs.declared.reply.Reply.{Reply}
use Rattle.wind_machine.specs.State.{State}
use Rattle.board_changes.specs.Views.{view_of_task, view_of_watchdog}
use Rattle.board_changes.specs.declared.view.TaskView.{TaskView}
use Rattle.board_trace.specs.Before.{owner_named}
use Rattle.board_trace.specs.Views.{SnapshotState}
use Rattle.board_trace.specs.Waited.{awaited_by}
use Rattle.board_trace.specs.declared.moment.BeforeStep.{BeforeStep}
use Rattle.board_trace.specs.declared.moment.Level.{Level}
use Rattle.board_trace.specs.declared.moment.AfterStep.{AfterStep}

-- the view of a task among these objects
abbrev pub view_in : Objects → Task → TaskView
view_in o t = view_of_task (awaited_by o t) t

-- the snapshot of a world
abbrev pub snapshot_of : WorldState → SnapshotState
snapshot_of w = record {
  tasks = map (view_in w.objects) w.kern.tasks;
  watchdogs = map view_of_watchdog w.watch.watchdogs;
  modules = ids w.modules.rows;
  last = w.kern.last;
}

-- the active routine, by its registers
abbrev pub level_of : Regs → Level
level_of r = record { pc = r.pc; param = slice_index r.gpr 3 }

-- what is read of a state after the step, with the reply to the step's call
abbrev pub after_step : BeforeStep → Option Reply → State → AfterStep
after_step c reply t = record {
  tick = t.world.kern.tick;
  left = length t.left;
  phase = t.shell.phase;
  level = option_map level_of t.world.watch.level;
  reply = reply;
  owner = owner_named t.world c.call;
}
