use Rattle.wind_owners.proofs.Owning.{owners_replayed}
use Rattle.wind_owners.proofs.laws.owners_law.Goals as goal

pub returns : goal.returns
returns c = owners_replayed c.owner_law.ensures
