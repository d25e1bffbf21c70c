use Rattle.std.proofs.Common.{ap, ◌∙◌, sym, subst}
use Rattle.id_table.specs.Rows.{rewritten}
use Rattle.isr_watch.specs.declared.watchdog.Watchdog.{Watchdog}
use Rattle.isr_watch.specs.State.{WatchState}
use Rattle.isr_watch.specs.Calls.{start}
use Rattle.isr_watch.specs.Inside.{IsLevel}
use Rattle.isr_watch.proofs.Writes.{live_object, start_level, started_is}
use Rattle.isr_watch.proofs.watch.Watch.start.Goals as goal

pub object_mut-requires : goal.object_mut-requires
object_mut-requires c =
    live_object c.self.inside.watchdogs.rows c.args.self.now.watchdogs c.in-Some.at c.self.invariant.0.own (ap (λ (s : WatchState). s.watchdogs) c.self.view_is) c.in-Some.ensures.1

pub invariant_of-self : goal.invariant_of-self
invariant_of-self c =
    let k = c.self.inside in (
      subst (IsLevel (rewritten k.watchdogs c.in-Some.at c.begin-due.new.watchdog) k.level k.listed.items) (sym c.min-self-inside.ensures)
          (start_level k.watchdogs k.level k.listed.items k.soonest c.begin-due.result c.in-Some.at c.object_mut.result.now c.begin-due.new.watchdog c.self.invariant.0 c.object_mut.ensures.value
          (ap (λ (w : Watchdog). w.id) c.begin-due.ensures.started) c.begin-due.ensures.due),
      c.self.invariant.1,
    )

pub returns-clause-state : goal.returns-clause-state
returns-clause-state c =
    let k = c.self.inside in
    started_is k.watchdogs.rows k.level k.listed.items k.next_start k.link c.in-Some.at c.args.id c.object_mut.result.now c.self.invariant.0.own c.object_mut.ensures.value c.in-Some.ensures.0 c.args.tick c.args.delay c.args.routine
    c.begin-due.new.watchdog c.facts.ensures.rising c.begin-due.ensures.started
    ∙ ap (λ s. start s c.args.id c.args.tick c.args.delay c.args.routine) c.self.view_is
