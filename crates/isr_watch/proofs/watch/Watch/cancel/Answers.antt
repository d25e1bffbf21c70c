use Rattle.std.proofs.Common.{ap, ◌∙◌, sym, subst, rules}
use Rattle.id_table.specs.Rows.{with_object}
use Rattle.isr_watch.specs.declared.watchdog.Watchdog.{Watchdog}
use Rattle.isr_watch.specs.State.{WatchState}
use Rattle.isr_watch.specs.Calls.{cancel}
use Rattle.isr_watch.specs.Inside.{DueFrom, watch_state}
use Rattle.isr_watch.proofs.Writes.{live_object, write_level, cancelled_is}
use Rattle.isr_watch.proofs.watch.Watch.cancel.Goals as goal

pub object_mut-requires : goal.object_mut-requires
object_mut-requires c =
    live_object c.self.inside.watchdogs.rows c.args.self.now.watchdogs c.in-Some.at c.self.invariant.0.own (ap (λ (s : WatchState). s.watchdogs) c.self.view_is) c.in-Some.ensures.1

pub invariant_of-self : goal.invariant_of-self
invariant_of-self c =
    let k = c.self.inside in
    (write_level k.watchdogs k.level k.listed.items k.soonest c.in-Some.at c.object_mut.result.now c.stop.new.watchdog c.self.invariant.0 c.object_mut.ensures.value (ap (λ (w : Watchdog). w.id) c.stop.ensures) (subst (DueFrom k.soonest) (sym c.stop.ensures) (search rules)), c.self.invariant.1)

pub returns-clause-state : goal.returns-clause-state
returns-clause-state c =
    let k = c.self.inside in
    ap (λ w. watch_state (with_object k.watchdogs.rows c.in-Some.at w) k.level k.listed.items k.next_start k.link) c.stop.ensures
    ∙ cancelled_is k.watchdogs.rows k.level k.listed.items k.next_start k.link c.in-Some.at c.args.id c.object_mut.result.now c.self.invariant.0.own c.object_mut.ensures.value c.in-Some.ensures.0 c.facts.ensures.rising
    ∙ ap (λ s. cancel s c.args.id) c.self.view_is
