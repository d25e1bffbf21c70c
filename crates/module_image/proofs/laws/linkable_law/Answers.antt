use Rattle.module_image.proofs.Known.{linkable}
use Rattle.module_image.proofs.laws.linkable_law.Goals as goal

pub returns : goal.returns
returns c = linkable
