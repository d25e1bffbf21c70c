use Rattle.board_actors.proofs.Readied.{readies, world_back}
use Rattle.board_actors.proofs.step_start.start_revocable_step.Goals as goal

pub returns-clause-ready : goal.returns-clause-ready
returns-clause-ready g c = rw (c.swap.ensures.x_after, c.clear.ensures, c.drop_others.ensures) (readies _ c.args.who c.requires.early.kept c.requires.early.early)

pub returns-clause-back : goal.returns-clause-back
returns-clause-back g c = rw (c.swap.ensures.y_after, c.kept_of-kept.ensures, c.drop_others.ensures) (world_back _ c.args.who c.requires.early.kept.kern c.requires.reserved)
