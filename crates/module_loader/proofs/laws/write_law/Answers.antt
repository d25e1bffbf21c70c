use Rattle.module_loader.proofs.Owning.{write_law}
use Rattle.module_loader.proofs.laws.write_law.Goals as goal

pub returns : goal.returns
returns c = write_law
