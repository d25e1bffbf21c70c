use Rattle.module_image.proofs.Lengths.{size_law}
use Rattle.module_image.proofs.laws.size_law.Goals as goal

pub returns : goal.returns
returns c = size_law
