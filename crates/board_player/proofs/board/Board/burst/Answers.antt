use Rattle.board_player.proofs.board.Board.burst.Goals as goal

pub invariant_of-self-clause-runs : goal.invariant_of-self-clause-runs
invariant_of-self-clause-runs g c = c.found-self.ensures.known
