-- What is known when a step begins.
use Rattle.std.proofs.Common.{ℕ, ◌^◌, ◌≤◌, ◌<◌, true, false, cond, eqb, List, [], ◌∷◌, map, Some, IsSome, refl, arith}
use Rattle.std.proofs.lemmas.List.Elements.{All-weaker}
use Rattle.task_block.specs.declared.task.Task.{Task}
use Rattle.wind_core.specs.State.{KernState, Lives, task_of}
use Rattle.wind_core.specs.Moves.{unreserved}
use Rattle.live_loading.specs.KernelWorldKept.{IsEarly, HasCounts}
use Rattle.board_actors.specs.StepStart.{IsEarlyWorld}
use Rattle.wind_machine.specs.State.{State}
use Rattle.wind_machine.specs.Good.{Good}
use Rattle.wind_machine.specs.Reserving.{drop_all}

-- the counters are far below their limits
pub good_early : (s : State) → Good s → s.steps < 10 ^ 12 → IsEarly s.world
good_early s g few = record {
  sinces = omega (arith, g.kept.sinces, few);
  ticks = omega (arith, g.kept.ticks, few);
  locks = All-weaker (HasCounts s.steps) (λ t. t.locks < 2 ^ 60) (λ t h. omega (arith, h.0, few)) s.world.kern.tasks g.kept.within.0;
  safes = All-weaker (HasCounts s.steps) (λ t. t.safe < 2 ^ 60) (λ t h. omega (arith, h.1, few)) s.world.kern.tasks g.kept.within.0;
  depths = All-weaker (λ r. r.1.depth ≤ s.steps) (λ r. r.1.depth < 2 ^ 60) (λ r h. omega (arith, h, few)) s.world.objects.mutexes.rows g.kept.within.1;
  names = omega (arith, g.kept.names, few);
  starts = omega (arith, g.kept.starts, few);
}

pub good_world : (s : State) → Good s → s.steps < 10 ^ 12 → IsEarlyWorld (record s.world { slots = [] })
good_world s g few = record { kept = g.kept.world; early = good_early s g few }

-- before an event, a task that lives still does
pub all_live : (k : KernState) (who : ℕ) → Lives k who → Lives (drop_all k) who
all_live k who live = all_found k.tasks who live where
  all_found : (ts : List Task) (who : ℕ) → IsSome (task_of ts who) → IsSome (task_of (map unreserved ts) who)
  all_found [] who h = h
  all_found (t ∷ ts) who h =
      elim (eqb t.id who) as (λ b. IsSome (cond b (Some t) (task_of ts who)) → IsSome (cond b (Some (unreserved t)) (task_of (map unreserved ts) who))) [ true ↦ λ d. refl | false ↦ λ d. all_found ts who d ] h
