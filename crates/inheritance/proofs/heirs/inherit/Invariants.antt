use Rattle.std.proofs.Common.{◌≡◌, ◌≤◌, ◌+◌, ◌-◌}
use Rattle.inheritance.proofs.Path.{walked}
use Rattle.inheritance.proofs.heirs.inherit.Given as goal

abbrev pub invariant-loop-step : goal.invariant-loop-step
invariant-loop-step l = record {
  same : walked l.mutexes.rows l.pri (256 - l.step) l.k l.at ≡ walked l.mutexes.rows l.pri 256 l.initial.k l.fn.who;
  room : l.k.next_since ≤ l.initial.k.next_since + l.step;
}
