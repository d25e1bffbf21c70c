use Rattle.inheritance.proofs.Joined as joined
use Rattle.inheritance.proofs.laws.urgency_law.Goals as goal

pub returns : goal.returns
returns c = record { urgency = joined.urgency_law; premise = joined.premise_law; heirs = joined.heirs_law }
