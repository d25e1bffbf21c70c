use Rattle.debug_view.proofs.Placed.{placed}
use Rattle.debug_view.proofs.laws.places_law.Goals as goal

pub returns : goal.returns
returns c = placed
