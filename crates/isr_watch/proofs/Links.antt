-- Which calls change the address to which a routine returns.
use Rattle.std.proofs.Common.{◌≡◌, ℕ, Option, None, Some, refl}
use Rattle.isr_watch.specs.declared.watchdog.Watchdog.{Watchdog}
use Rattle.isr_watch.specs.declared.watchdog.Routine.{Routine}
use Rattle.isr_watch.specs.State.{WatchState, watchdog_of}
use Rattle.isr_watch.specs.Calls.{deleted, start_found, cancel_found}
use Rattle.isr_watch.specs.Laws.{LinkLaw}

module _ (s : WatchState) (id : ℕ) where
  deleted_link : (o : Option Watchdog) → (deleted s id o).link ≡ s.link
  deleted_link None = refl
  deleted_link (Some w) = refl

  cancelled_link : (o : Option Watchdog) → (cancel_found s id o).link ≡ s.link
  cancelled_link None = refl
  cancelled_link (Some w) = refl

  started_link : (tick delay : ℕ) (routine : Routine) (o : Option Watchdog) → (start_found s id tick delay routine o).link ≡ s.link
  started_link tick delay routine None = refl
  started_link tick delay routine (Some w) = refl

pub link_stays : LinkLaw
link_stays s = record {
  creating = λ id. refl;
  deleting = λ id. deleted_link s id (watchdog_of s.watchdogs id);
  starting = λ id tick delay routine. started_link s id tick delay routine (watchdog_of s.watchdogs id);
  cancelling = λ id. cancelled_link s id (watchdog_of s.watchdogs id);
  ticking = λ tick top. refl;
  beginning = λ routines top. refl;
  finishing = λ top. refl;
  going_on = λ regs. refl;
}
