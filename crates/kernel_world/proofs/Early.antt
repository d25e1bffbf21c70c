-- Counters below a bound.
use Rattle.std.proofs.Common.{◌<◌, ◌≤◌, ◌^◌, List, arith}
use Rattle.std.specs.List.{All}
use Rattle.std.proofs.lemmas.List.Elements.{All-weaker}
use Rattle.task_block.specs.declared.task.Task.{Task}
use Rattle.wind_core.specs.Moves.{past_gate}
use Rattle.wind_core.proofs.Stable.{All-change}
use Rattle.kernel_world.specs.State.{WorldState}
use Rattle.kernel_world.specs.Replies.{left_gate}
use Rattle.kernel_world.specs.declared.actor.Actor.{Actor}
use Rattle.kernel_world.specs.declared.actor.Actor.TheVariants.{Task as ATask, Interrupt}
use Rattle.kernel_world.specs.Kept.{IsEarly, HasCounts, Within}

both_counts : (ts : List Task) → All (λ t. t.locks < 2 ^ 60) ts → All (λ t. t.safe < 2 ^ 60) ts → All (HasCounts (2 ^ 60)) ts
both_counts ts locks safes i d within = (omega (arith, locks i d within), omega (arith, safes i d within))

-- counts below a bound are within it
pub early_within : (w : WorldState) → IsEarly w → Within (2 ^ 60) w
early_within w e = (both_counts w.kern.tasks e.locks e.safes, All-weaker (λ r. r.1.depth < 2 ^ 60) (λ r. r.1.depth ≤ 2 ^ 60) (λ r h. omega (arith, h)) w.objects.mutexes.rows e.depths)

-- the counters stay below it if a caller goes on after its gate
pub left_early : (w : WorldState) (a : Actor) → IsEarly w → IsEarly (left_gate w a)
left_early w (ATask who) e = record {
  sinces = e.sinces;
  ticks = e.ticks;
  locks = All-change (λ t. t.locks < 2 ^ 60) w.kern.tasks who past_gate (λ t h. h) e.locks;
  safes = All-change (λ t. t.safe < 2 ^ 60) w.kern.tasks who past_gate (λ t h. h) e.safes;
  depths = e.depths;
  names = e.names;
  starts = e.starts;
}
left_early w Interrupt e = record { sinces = e.sinces; ticks = e.ticks; locks = e.locks; safes = e.safes; depths = e.depths; names = e.names; starts = e.starts }
