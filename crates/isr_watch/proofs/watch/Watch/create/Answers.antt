use Rattle.std.proofs.Common.{◌<◌, ◌∙◌, sym, subst}
use Rattle.std.specs.List.{All}
use Rattle.id_table.specs.Rows.{IdsBelow}
use Rattle.id_table.specs.Source.{Ids}
use Rattle.isr_watch.specs.declared.watchdog.Watchdog.{Watchdog}
use Rattle.isr_watch.specs.State.{WatchState}
use Rattle.isr_watch.proofs.Writes.{below_of, made_own}
use Rattle.isr_watch.proofs.watch.Watch.create.Goals as goal

pub add_watchdog-made-requires-clause-below : goal.add_watchdog-made-requires-clause-below
add_watchdog-made-requires-clause-below c =
    let rs = c.self.inside.watchdogs.rows in
    let next = c.args.kern.now.next_id in
    subst (λ (s : Ids). IdsBelow s.next rs) (sym c.lend_ids-ids.ensures.value)
    (below_of rs next c.self.invariant.0.own (subst (λ (s : WatchState). All (λ (w : Watchdog). w.id < next) s.watchdogs) (sym c.self.view_is) c.requires.below))

pub invariant_of-self : goal.invariant_of-self
invariant_of-self c =
    let is = c.self.invariant.0 in
    let made = c.add_watchdog-made in
    let stays = made_own c.self.inside.watchdogs made.new.watchdogs c.self.inside.soonest c.lend_ids-ids.result made.new.ids made.result is.own is.early made.ensures.ok made.ensures.err in
    (record { own = stays.0; room = stays.2 ∙ is.room; early = stays.1; idle = is.idle }, c.self.invariant.1)
