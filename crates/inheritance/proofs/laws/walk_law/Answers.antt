use Rattle.inheritance.proofs.Walk as walks
use Rattle.inheritance.proofs.laws.walk_law.Goals as goal

pub returns : goal.returns
returns c = walks.walk_law
