use Rattle.inheritance.proofs.Same as same
use Rattle.inheritance.proofs.laws.raised_law.Goals as goal

pub returns-clause-raised : goal.returns-clause-raised
returns-clause-raised c = same.raised_law

pub returns-clause-same : goal.returns-clause-same
returns-clause-same c = same.same_law
