use Rattle.sem_plain.proofs.Beginning.{then}
use Rattle.sem_plain.proofs.Moving.{moves, series}
use Rattle.sem_plain.proofs.Keeping.{beside}
use Rattle.sem_plain.proofs.Living.{live_beside}
use Rattle.sem_plain.proofs.laws.kernel_law.Goals as goal

pub returns : goal.returns
returns c = record { moves = moves; compose = then; series = series; kept = beside; live = live_beside }
