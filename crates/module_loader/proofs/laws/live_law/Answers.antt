use Rattle.module_loader.proofs.Running.{live_law}
use Rattle.module_loader.proofs.laws.live_law.Goals as goal

pub returns : goal.returns
returns c = live_law
