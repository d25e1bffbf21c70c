use Rattle.module_image.proofs.Laying.{layout_law}
use Rattle.module_image.proofs.laws.layout_law.Goals as goal

pub returns : goal.returns
returns c = layout_law
