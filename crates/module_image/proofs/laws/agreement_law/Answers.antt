use Rattle.module_image.proofs.Agreement.{agreement_law}
use Rattle.module_image.proofs.laws.agreement_law.Goals as goal

pub returns : goal.returns
returns c = agreement_law
