-- What a snapshot shows after instructions of one task or routine.
use Rattle.std.proofs.Common.{◌≡◌, ℕ, sym, ap, subst}
use Rattle.kernel_world.specs.State.{WorldState}
use Rattle.kernel_world.specs.declared.actor.Actor.{Actor}
use Rattle.kernel_world.specs.declared.actor.Actor.TheVariants.{Task as by_task, Interrupt}
use Rattle.wind_session.specs.BoardPlayerBursts.{MovesOnly}
use Rattle.trace_state.specs.BoardReadingMoved.{IsMoved}
use Rattle.trace_session.specs.Counters.{queue_counts}

-- a task's instructions change its registers
moved_of : (w v : WorldState) (who : ℕ) → MovesOnly (by_task who) w v → IsMoved w v who
moved_of w v who moves = record {
  regs = moves.regs;
  kern = ap (λ (x : WorldState). x.kern) moves.world;
  objects = ap (λ (x : WorldState). x.objects) moves.world;
  watchdogs = ap (λ (x : WorldState). x.watch.watchdogs) moves.world;
  modules = ap (λ (x : WorldState). x.modules) moves.world;
}

-- the same of a world that is read
pub moved_task : (w v read : WorldState) (a : Actor) (who : ℕ) → read ≡ v → a ≡ by_task who → MovesOnly a w v → IsMoved w read who
moved_task w v read a who same is moves = moved_of w read who (subst (λ x. MovesOnly (by_task who) w x) (sym same) (subst (λ b. MovesOnly b w v) is moves))

-- they leave the queues as they are
pub same_counts : (w v : WorldState) (who : Actor) → MovesOnly who w v → queue_counts w ≡ queue_counts v
same_counts w v (by_task id) moves = sym (ap (λ (x : WorldState). queue_counts x) moves.world)
same_counts w v Interrupt moves = sym (ap (λ (x : WorldState). queue_counts x) moves.world)
