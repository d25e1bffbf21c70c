use Rattle.sweep_table.proofs.JoinLemmas.{joins}
use Rattle.sweep_table.proofs.join_law.Goals as goal

pub returns : goal.returns
returns c = joins
