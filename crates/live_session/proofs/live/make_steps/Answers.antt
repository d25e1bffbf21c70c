use Rattle.std.proofs.Common.{arith}
use Rattle.live_session.proofs.Flow.{went}
use Rattle.live_session.proofs.Moving.{has_gone}
use Rattle.live_session.proofs.live.make_steps.Goals as goal

-- the record is the same, and the board keeps room for a further event
pub returns-clause-runs : goal.returns-clause-runs
returns-clause-runs g c = record {
  sound = record {
    kept = c.requires.kept;
    console = c.requires.console;
    room = c.resume_board.ensures.room _ _ c.requires.room;
    few = omega (arith, c.resume_board.ensures.steps, c.requires.few);
  };
  goes = went _ _ _ _ _ _ _ c.resume_board.ensures.ran;
  quiet = c.resume_board.ensures.quiet;
  read_fault = c.resume_board.ensures.read_fault;
  write_fault = c.resume_board.ensures.fault;
  keeps = c.resume_board.ensures.keeps;
}

-- why it ended
pub returns-clause-made : goal.returns-clause-made
returns-clause-made g c = λ shelf setup old here.
    has_gone c.args.modules.now shelf setup old _ _ here c.resume_board.result c.args.most _ _ _ c.resume_board.ensures.ran (omega arith)
    c.resume_board.ensures.quiet c.resume_board.ensures.read_fault c.resume_board.ensures.fault
