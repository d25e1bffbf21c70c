use Rattle.wind_owners.proofs.Steps.{owners_kept}
use Rattle.wind_owners.proofs.laws.owner_law.Goals as goal

pub returns : goal.returns
returns c = owners_kept c.loading_law.ensures.alone
