use Rattle.module_image.proofs.Counts.{count_law}
use Rattle.module_image.proofs.laws.count_law.Goals as goal

pub returns : goal.returns
returns c = count_law
