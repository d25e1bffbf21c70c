-- The ids of the watchdogs after each call.
use Rattle.std.proofs.Common.{ℕ, ◌+◌, ◌<◌, ◌≤◌, true, false, not, cond, eqb, List, Option, None, Some, arith}
use Rattle.std.specs.List.{All}
use Rattle.std.proofs.lemmas.List.Elements.{All-filter, All-map, All-push, All-weaker}
use Rattle.id_table.specs.Records.{change}
use Rattle.isr_watch.specs.declared.watchdog.Watchdog.{Watchdog}
use Rattle.isr_watch.specs.declared.watchdog.Routine.{Routine}
use Rattle.isr_watch.specs.State.{WatchState, watchdog_id, watchdog_of, is_due}
use Rattle.isr_watch.specs.Calls.{new_watchdog, deleted, started, start_found, stopped, cancel_found, stop_due}
use Rattle.isr_watch.specs.Laws.{AllBelow, IdsLaw}

module _ (n : ℕ) where
  abbrev is_below : Watchdog → Type 0
  is_below w = w.id < n

  changed_below : (ws : List Watchdog) (id : ℕ) (f : Watchdog → Watchdog) → ((w : Watchdog) → is_below w → is_below (f w)) → All is_below ws → All is_below (change watchdog_id ws id f)
  changed_below ws id f keeps all =
      All-map is_below (λ (w : Watchdog). cond (eqb w.id id) (f w) w) ws
      (All-weaker is_below (λ w. is_below (cond (eqb w.id id) (f w) w)) (λ w h. elim (eqb w.id id) as (λ b. is_below (cond b (f w) w)) [ true ↦ keeps w h | false ↦ h ]) ws all)

  due_below : (tick : ℕ) (ws : List Watchdog) → All is_below ws → All is_below (stop_due tick ws)
  due_below tick ws all =
      All-map is_below (λ (w : Watchdog). cond (is_due tick w) (stopped w) w) ws
      (All-weaker is_below (λ w. is_below (cond (is_due tick w) (stopped w) w)) (λ w h. elim (is_due tick w) as (λ b. is_below (cond b (stopped w) w)) [ true ↦ h | false ↦ h ]) ws all)

  deleted_below : (s : WatchState) (id : ℕ) (o : Option Watchdog) → AllBelow n s → AllBelow n (deleted s id o)
  deleted_below s id None all = all
  deleted_below s id (Some w) all = All-filter (λ (v : Watchdog). not (eqb v.id id)) is_below s.watchdogs all

  started_below : (s : WatchState) (id tick delay : ℕ) (routine : Routine) (o : Option Watchdog) → AllBelow n s → AllBelow n (start_found s id tick delay routine o)
  started_below s id tick delay routine None all = all
  started_below s id tick delay routine (Some w) all = changed_below s.watchdogs id (started tick delay routine s.next_start) (λ v h. h) all

  cancelled_below : (s : WatchState) (id : ℕ) (o : Option Watchdog) → AllBelow n s → AllBelow n (cancel_found s id o)
  cancelled_below s id None all = all
  cancelled_below s id (Some w) all = changed_below s.watchdogs id stopped (λ v h. h) all

next_started : (s : WatchState) (id tick delay : ℕ) (routine : Routine) (o : Option Watchdog) → (start_found s id tick delay routine o).next_start ≤ s.next_start + 1
next_started s id tick delay routine None = omega arith
next_started s id tick delay routine (Some w) = omega arith

pub ids_stay : IdsLaw
ids_stay n s all = record {
  creating = λ id below. All-push (is_below n) s.watchdogs (new_watchdog id) all below;
  deleting = λ id. deleted_below n s id (watchdog_of s.watchdogs id) all;
  starting = λ id tick delay routine. started_below n s id tick delay routine (watchdog_of s.watchdogs id) all;
  counting = λ id tick delay routine. next_started s id tick delay routine (watchdog_of s.watchdogs id);
  cancelling = λ id. cancelled_below n s id (watchdog_of s.watchdogs id) all;
  ticking = λ tick top. due_below n tick s.watchdogs all;
  beginning = λ routines top. all;
  finishing = λ top. all;
  returning = λ link. all;
}
