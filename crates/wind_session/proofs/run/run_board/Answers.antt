use Rattle.wind_session.proofs.Continuing.{from_start}
use Rattle.wind_session.proofs.run.run_board.Goals as goal

pub returns-clause-ran : goal.returns-clause-ran
returns-clause-ran g c = from_start _ _ _ _ c.args.limit _ _ c.requires.fresh c.resume_board.ensures.ran
