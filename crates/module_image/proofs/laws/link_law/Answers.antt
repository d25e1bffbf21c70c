use Rattle.module_image.proofs.Linking.{link_law}
use Rattle.module_image.proofs.laws.link_law.Goals as goal

pub returns : goal.returns
returns c = link_law
