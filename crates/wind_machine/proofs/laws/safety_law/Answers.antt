use Rattle.wind_machine.proofs.Going.{safe_stay}
use Rattle.wind_machine.proofs.laws.safety_law.Goals as goal

pub returns : goal.returns
returns c = safe_stay c.loading_law.ensures.kept
