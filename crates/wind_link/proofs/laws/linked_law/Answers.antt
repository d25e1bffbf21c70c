use Rattle.wind_link.proofs.Boarding.{linked_law}
use Rattle.wind_link.proofs.laws.linked_law.Goals as goal

pub returns : goal.returns
returns c = linked_law
