use Rattle.std.proofs.Common.{ap}
use Rattle.board_player.proofs.Keeping.{booted}
use Rattle.board_player.proofs.board.Board.boot.Goals as goal

pub invariant_of-result-clause-good : goal.invariant_of-result-clause-good
invariant_of-result-clause-good g c =
    booted c.step_law.ensures.start _ _ c.args.profile c.args.board _ _ _ _ _ _ _ c.new-2.ensures c.in-Ok-new.ensures c.new-3.ensures c.in_ok-world.ensures.ok (ap (λ k. k.time) c.new-4.ensures) (ap (λ k. k.steps) c.new-4.ensures)
