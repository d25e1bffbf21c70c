use Rattle.std.proofs.Common.{◌≡◌, ◌≤◌, ◌+◌, length}
use Rattle.wind_core.specs.Orders.{due}
use Rattle.wind_core.specs.Tick.{wake_due}
use Rattle.wind_core.proofs.kern.Kern.wake_due.Given as goal

abbrev pub invariant-loop-late : goal.invariant-loop-late
invariant-loop-late l = record {
  same : wake_due l.self l.tick ≡ wake_due l.initial.self l.tick;
  tick : l.self.tick ≡ l.initial.self.tick;
  room : l.self.next_since + length (due l.self.tasks l.tick) ≤ l.initial.self.next_since + length (due l.initial.self.tasks l.tick);
}

abbrev pub decreases-loop-late : goal.decreases-loop-late
decreases-loop-late l = length (due l.self.tasks l.tick)
