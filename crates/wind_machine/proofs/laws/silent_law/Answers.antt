use Rattle.wind_machine.proofs.Silence.{silent_law}
use Rattle.wind_machine.proofs.laws.silent_law.Goals as goal

pub returns : goal.returns
returns c = silent_law
