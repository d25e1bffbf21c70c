use Rattle.wind_machine.proofs.Instants.{instants}
use Rattle.wind_machine.proofs.laws.instant_law.Goals as goal

pub returns : goal.returns
returns c = instants
