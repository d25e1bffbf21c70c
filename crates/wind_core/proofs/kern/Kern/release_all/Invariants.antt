use Rattle.std.proofs.Common.{◌≡◌, ◌≤◌, ◌+◌, length}
use Rattle.wind_core.specs.Orders.{waiters}
use Rattle.wind_core.specs.Releases.{release_all}
use Rattle.wind_core.proofs.kern.Kern.release_all.Given as goal

abbrev pub invariant-loop-who : goal.invariant-loop-who
invariant-loop-who l = record {
  same : release_all l.self l.place ≡ release_all l.initial.self l.place;
  room : l.self.next_since + length (waiters l.self.tasks l.place) ≤ l.initial.self.next_since + length (waiters l.initial.self.tasks l.place);
}

abbrev pub decreases-loop-who : goal.decreases-loop-who
decreases-loop-who l = length (waiters l.self.tasks l.place)
