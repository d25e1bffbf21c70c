use Rattle.board_actors.proofs.Readied.{all_ready}
use Rattle.board_actors.proofs.step_start.start_routine_step.Goals as goal

pub returns-clause-ready : goal.returns-clause-ready
returns-clause-ready g c = rw (c.clear.ensures, c.drop_all.ensures) (all_ready _ c.requires.early.kept c.requires.early.early)
