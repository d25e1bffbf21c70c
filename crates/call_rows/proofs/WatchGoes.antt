-- What the calls on watchdogs keep.
use Rattle.std.proofs.Common.{◌≡◌, ℕ, ◌+◌, ◌<◌, ◌≤◌, length, map, Option, None, Some, refl, ◌∙◌, arith}
use Rattle.wind_base.specs.declared.errno.Errno.{Errno}
use Rattle.wind_base.specs.declared.errno.Errno.TheVariants as errors
use Rattle.isr_watch.specs.declared.watchdog.Routine.{Routine}
use Rattle.isr_watch.specs.declared.watchdog.Watchdog.{Watchdog}
use Rattle.isr_watch.specs.State.{WatchState, watchdog_id, watchdog_of}
use Rattle.isr_watch.specs.Calls.{new_watchdog, create_refusal, created, started, start_found, start, stopped, cancel_found, cancel, deleted, delete}
use Rattle.isr_watch.specs.Laws.{AllBelow, IdsStay, LinkStays, WatchStays}
use Rattle.isr_watch.proofs.Ids.{ids_stay}
use Rattle.isr_watch.proofs.Keeping.{watch_stays}
use Rattle.isr_watch.proofs.Links.{link_stays}
use Rattle.std.proofs.lemmas.List.Elements.{All-weaker}
use Rattle.wind_core.specs.Move.{DrawIds}
use Rattle.kernel_world.specs.State.{WorldState}
use Rattle.kernel_world.specs.Kept.{IsWorld, Within}
use Rattle.kernel_world.specs.declared.reply.Reply.TheVariants.{Answer, Refusal}
use Rattle.call_rows.specs.Unless.{unless}
use Rattle.call_rows.specs.WatchRows.{WatchRow, row_of, create_row, start_row, cancel_row, delete_row}
use Rattle.kernel_world.proofs.Goes.{drawn, goes-draw, id_left, goes_nowhere}
use Rattle.kernel_world.proofs.ObjectMoves.{objects-move}
use Rattle.kernel_world.proofs.Advancing.{Advances, advances_more, of_watches, stays}
use Rattle.kernel_world.proofs.LiveIds.{Fewer, Given, Nothing, fewer_same, fewer_records, ids_change, given_record}

-- no start is counted if a watchdog is stopped or deleted
same_cancel : (s : WatchState) (id : ℕ) → (cancel s id).next_start ≡ s.next_start
same_cancel s id = elim (watchdog_of s.watchdogs id) as (λ o. (cancel_found s id o).next_start ≡ s.next_start) [ None ↦ refl | Some v ↦ refl ]

same_delete : (s : WatchState) (id : ℕ) → (delete s id).next_start ≡ s.next_start
same_delete s id = elim (watchdog_of s.watchdogs id) as (λ o. (deleted s id o).next_start ≡ s.next_start) [ None ↦ refl | Some v ↦ refl ]

-- a world with the tasks and watchdogs of a row
abbrev watched : WorldState → WatchRow → WorldState
watched w r = record w { kern = r.kern; watch = r.watch }

module _ (w : WorldState) (kept : IsWorld w) (n : ℕ) (within : Within n w) where
  ids : IdsStay w.kern.next_id w.watch
  ids = ids_stay w.kern.next_id w.watch kept.watch.ids

  still : WatchStays w.kern.next_id w.watch
  still = watch_stays w.kern.next_id w.watch kept.watch.watch kept.watch.ids

  links : LinkStays w.watch
  links = link_stays w.watch

  -- the watchdogs have only ids that were there before
  abbrev Few : WatchState → Type 0
  Few s = Fewer (map watchdog_id s.watchdogs) (map watchdog_id w.watch.watchdogs)

  none_given : (s : WatchState) → Few s → Given w.kern.next_id w.kern.next_id (map watchdog_id w.watch.watchdogs) (map watchdog_id s.watchdogs)
  none_given s few = Nothing (omega arith) few

  all_watchdogs : Few w.watch
  all_watchdogs = fewer_same (map watchdog_id w.watch.watchdogs) (map watchdog_id w.watch.watchdogs) refl

  started_fewer : (id delay : ℕ) (routine : Routine) (o : Option Watchdog) → Few (start_found w.watch id w.kern.tick delay routine o)
  started_fewer id delay routine None = all_watchdogs
  started_fewer id delay routine (Some v) =
      fewer_same (map watchdog_id w.watch.watchdogs) _
      (ids_change watchdog_id w.watch.watchdogs id (started w.kern.tick delay routine w.watch.next_start) (λ v. refl))

  cancelled_fewer : (id : ℕ) (o : Option Watchdog) → Few (cancel_found w.watch id o)
  cancelled_fewer id None = all_watchdogs
  cancelled_fewer id (Some v) = fewer_same (map watchdog_id w.watch.watchdogs) _ (ids_change watchdog_id w.watch.watchdogs id stopped (λ v. refl))

  deleted_fewer : (id : ℕ) (o : Option Watchdog) → Few (deleted w.watch id o)
  deleted_fewer id None = all_watchdogs
  deleted_fewer id (Some v) = fewer_records watchdog_id w.watch.watchdogs id

  pub create_advances : Advances w (watched w (create_row w.kern w.watch)) n 0 1
  create_advances = go (create_refusal (length w.watch.watchdogs) w.kern.next_id) refl where
    next : ℕ
    next = w.kern.next_id

    more : AllBelow (next + 1) w.watch
    more = All-weaker (λ v. v.id < next) (λ v. v.id < next + 1) (λ v below. omega (arith, below)) w.watch.watchdogs kept.watch.ids

    go : (r : Option Errno) → create_refusal (length w.watch.watchdogs) next ≡ r → Advances w (watched w (unless r (λ e. row_of w.kern w.watch (Refusal e)) (row_of (drawn w.kern) (created w.watch next) (Answer next)))) n 0 1
    go (Some e) same = advances_more w w n n 0 0 0 1 (omega arith) (omega arith) (omega arith) (stays w kept n within)
    go None same =
        let left : next ≤ 1048576 = id_left 256 (length w.watch.watchdogs) next errors.TooMany errors.IdsSpent same in
        of_watches w kept n within (drawn w.kern) (created w.watch next) 1 (goes-draw w.kern n kept.kern within.0 left)
        (objects-move w.kern w.objects kept.kern kept.objects (DrawIds (next + 1)) ((omega arith, omega (arith, left)), omega arith, omega arith, tt))
        (record { watch = still.creating same; ids = (ids_stay (next + 1) w.watch more).creating next (omega arith); link = kept.watch.link }) (omega arith)
        (given_record watchdog_id w.watch.watchdogs (new_watchdog next))

  pub start_advances : (id delay : ℕ) (routine : Routine) → Advances w (watched w (start_row w.kern w.watch id delay routine)) n 0 1
  start_advances id delay routine =
      of_watches w kept n within w.kern (start w.watch id w.kern.tick delay routine) 1 (goes_nowhere w.kern n kept.kern within.0) kept.objects
      (record { watch = still.starting id w.kern.tick delay routine; ids = ids.starting id w.kern.tick delay routine; link = links.starting id w.kern.tick delay routine ∙ kept.watch.link }) (ids.counting id w.kern.tick delay routine)
      (none_given (start w.watch id w.kern.tick delay routine) (started_fewer id delay routine (watchdog_of w.watch.watchdogs id)))

  pub cancel_advances : (id : ℕ) → Advances w (watched w (cancel_row w.kern w.watch id)) n 0 1
  cancel_advances id =
      of_watches w kept n within w.kern (cancel w.watch id) 1 (goes_nowhere w.kern n kept.kern within.0) kept.objects
      (record { watch = still.cancelling id; ids = ids.cancelling id; link = links.cancelling id ∙ kept.watch.link }) (omega (arith, same_cancel w.watch id))
      (none_given (cancel w.watch id) (cancelled_fewer id (watchdog_of w.watch.watchdogs id)))

  pub delete_advances : (id : ℕ) → Advances w (watched w (delete_row w.kern w.watch id)) n 0 1
  delete_advances id =
      of_watches w kept n within w.kern (delete w.watch id) 1 (goes_nowhere w.kern n kept.kern within.0) kept.objects
      (record { watch = still.deleting id; ids = ids.deleting id; link = links.deleting id ∙ kept.watch.link }) (omega (arith, same_delete w.watch id))
      (none_given (delete w.watch id) (deleted_fewer id (watchdog_of w.watch.watchdogs id)))
