use Rattle.std.proofs.Common.{ap, ◌∙◌}
use Rattle.board_trace.specs.Snapshots.{snapshot_of}
use Rattle.trace_session.proofs.Skipping.{moved_task}
use Rattle.trace_session.proofs.reader.StepReader.skip.Goals as goal

pub returns-in-Task : goal.returns-in-Task
returns-in-Task g c = λ s good moves same.
    c.retake_task.ensures s.world good.kept.world.kern (moved_task s.world _ _ c.args.who.now c.in-Task.id c.world.ensures c.in-Task.is moves) same ∙ ap snapshot_of c.world.ensures
