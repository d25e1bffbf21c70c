use Rattle.sem_mutex.proofs.AtOnce as settling
use Rattle.sem_mutex.proofs.Lawful as laws
use Rattle.sem_mutex.proofs.Opening.{opening_keeps}
use Rattle.sem_mutex.proofs.laws.kept_law.Goals as goal

pub returns : goal.returns
returns c = record {
  beside = laws.beside_law;
  safety = laws.safety_law;
  calls = laws.calls_law;
  idle = settling.idle_law;
  settle = settling.settle_law;
  settled = settling.settled_law;
  gone = laws.gone_law;
  opening = opening_keeps;
}
