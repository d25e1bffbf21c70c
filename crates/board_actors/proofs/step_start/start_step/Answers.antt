use Rattle.board_actors.proofs.Readied.{readies}
use Rattle.board_actors.proofs.step_start.start_step.Goals as goal

pub returns-clause-ready : goal.returns-clause-ready
returns-clause-ready g c = rw (c.clear.ensures, c.drop_others.ensures) (readies _ c.args.who c.requires.early.kept c.requires.early.early)
