use Rattle.sem_plain.proofs.Living.{hands, wakes}
use Rattle.sem_plain.proofs.laws.waiters_law.Goals as goal

pub returns : goal.returns
returns c = record { hand = hands; woken = wakes }
