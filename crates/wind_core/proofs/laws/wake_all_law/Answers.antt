use Rattle.wind_core.proofs.Lawful.{none_left}
use Rattle.wind_core.proofs.laws.wake_all_law.Goals as goal

pub returns : goal.returns
returns c = none_left
