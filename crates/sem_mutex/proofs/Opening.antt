-- At the start there are no tasks and no mutexes.
use Rattle.std.proofs.Common.{length, ap, arith}
use Rattle.sem_mutex.specs.Laws.{OpeningLaw}

pub opening_keeps : OpeningLaw
opening_keeps s no_task no_mutex = record {
  holds = record { tasks = λ i d hi. absurd (omega (arith, ap length no_task)); mutexes = λ i d hi. absurd (omega (arith, ap length no_mutex)) };
  urgent = λ one i c hi. absurd (omega (arith, ap length no_task));
}
