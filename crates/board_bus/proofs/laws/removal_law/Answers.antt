use Rattle.board_bus.proofs.Removals.{removals}
use Rattle.board_bus.proofs.laws.removal_law.Goals as goal

pub returns : goal.returns
returns c = removals
