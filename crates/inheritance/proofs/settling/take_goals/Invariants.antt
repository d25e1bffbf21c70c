use Rattle.std.proofs.Common.{◌≡◌, ℕ, ◌≤◌, ◌+◌, take}
use Rattle.wind_core.proofs.Ids.{ids}
use Rattle.inheritance.specs.Reach.{repried}
use Rattle.inheritance.specs.Goals.{AreGoals}
use Rattle.inheritance.proofs.settling.take_goals.Given as goal

abbrev pub invariant-loop-place : goal.invariant-loop-place
invariant-loop-place l = record {
  alike : ids l.k.tasks ≡ ids l.initial.k.tasks;
  same : (goal : ℕ → ℕ) → AreGoals l.initial.k.tasks l.goals goal → l.k ≡ repried l.initial.k goal (take l.place l.initial.k.tasks);
  room : l.k.next_since ≤ l.initial.k.next_since + l.place;
}
