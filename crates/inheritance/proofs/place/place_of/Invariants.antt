use Rattle.std.proofs.Common.{◌≤◌, ◌-◌, length}
use Rattle.inheritance.proofs.Places.{Below, Above}
use Rattle.inheritance.proofs.place.place_of.Given as goal

abbrev pub invariant-loop-low : goal.invariant-loop-low
invariant-loop-low l = record {
  ordered : l.low ≤ l.high;
  within : l.high ≤ length l.k.tasks;
  below : Below l.k.tasks l.number l.low;
  above : Above l.k.tasks l.number l.high;
}

abbrev pub decreases-loop-low : goal.decreases-loop-low
decreases-loop-low l = l.high - l.low
