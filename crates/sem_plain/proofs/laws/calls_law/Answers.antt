use Rattle.sem_plain.proofs.Keeping.{calls_keep}
use Rattle.sem_plain.proofs.Living.{calls_live}
use Rattle.sem_plain.proofs.laws.calls_law.Goals as goal

pub returns : goal.returns
returns c = record { kept = calls_keep; live = calls_live }
