use Rattle.inheritance.proofs.Long as long
use Rattle.inheritance.proofs.laws.owner_law.Goals as goal

pub returns : goal.returns
returns c = long.owner_law
