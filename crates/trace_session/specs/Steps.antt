-- The lines of a step, from what is read before and after it.
use Rattle.std.specs.Prelude.{List, Option}
use Rattle.kernel_world.specs.declared.reply.Reply.{Reply}
use Rattle.wind_machine.specs.State.{State}
use Rattle.board_trace.specs.Runs.{Line}
use Rattle.board_trace.specs.Snapshots.{after_step, snapshot_of}
use Rattle.board_trace.specs.Steps.{happenings_from}
use Rattle.board_trace.specs.Subjects.{subject_name}
use Rattle.board_trace.specs.Views.{SnapshotState}
use Rattle.board_trace.specs.declared.happening.Happening.{Happening}
use Rattle.board_trace.specs.declared.moment.BeforeStep.{BeforeStep}

-- the line of what happens in a step
abbrev pub line_of : BeforeStep → SnapshotState → SnapshotState → Happening → Line
line_of b before after h = record { time = b.time; step = b.step; name = subject_name before after h; what = h }

-- what happened in the step that left this state, from what was read before it and the reply to its call
abbrev pub happenings_read : BeforeStep → SnapshotState → Option Reply → State → List Happening
happenings_read b before reply t = happenings_from b before (snapshot_of t.world) (after_step b reply t) t.world.output
