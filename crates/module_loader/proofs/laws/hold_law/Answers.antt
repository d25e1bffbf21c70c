use Rattle.module_loader.proofs.Holds.{hold_law}
use Rattle.module_loader.proofs.laws.hold_law.Goals as goal

pub returns : goal.returns
returns c = hold_law
