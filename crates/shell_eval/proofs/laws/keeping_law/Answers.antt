use Rattle.shell_eval.proofs.KeptSteps.{keeps, writes}
use Rattle.shell_eval.proofs.laws.keeping_law.Goals as goal

pub returns : goal.returns
returns c = record { keeps = keeps; output = writes }
