use Rattle.std.proofs.Common.{refl, ap, ◌∙◌, subst, arith}
use Rattle.inheritance.specs.Mutexes.{both}
use Rattle.sem_mutex.specs.declared.plans.TakePlan.TheVariants as takes
use Rattle.sem_mutex.specs.Calls.{raised_at_once}
use Rattle.sem_mutex.specs.Kept.{IsEarlyFor}
use Rattle.sem_mutex.proofs.Answering.{few_held, taken_at, waits_some, taken_there, took_free, took_again, took_nothing, awaits}
use Rattle.sem_mutex.proofs.mutexes.Mutexes.take.Goals as goal

pub hand-requires-clause-there : goal.hand-requires-clause-there
hand-requires-clause-there c = taken_there c.args.self.now.rows c.args.caller c.args.id c.args.timeout c.in-Taken.at (takes.Taken c.in-Taken.at) c.in-Taken.ensures refl

pub hand-requires-clause-held : goal.hand-requires-clause-held
hand-requires-clause-held c = omega (arith, few_held (both c.args.k.now c.args.self.now) c.args.caller c.facts-2.ensures c.requires.kept)

pub hand-requires-clause-safe : goal.hand-requires-clause-safe
hand-requires-clause-safe c = omega (arith, c.requires.early.safe)

pub deepen-requires-clause-there : goal.deepen-requires-clause-there
deepen-requires-clause-there c = taken_there c.args.self.now.rows c.args.caller c.args.id c.args.timeout c.in-Retaken.at (takes.Retaken c.in-Retaken.at) c.in-Retaken.ensures refl

pub deepen-requires-clause-early : goal.deepen-requires-clause-early
deepen-requires-clause-early c =
    subst (IsEarlyFor (both c.args.k.now c.args.self.now) c.args.caller) (taken_at c.args.self.now.rows c.args.caller c.args.id c.args.timeout c.in-Retaken.at (takes.Retaken c.in-Retaken.at) c.in-Retaken.ensures refl) c.requires.early

pub await_mutex-requires-clause-timeout : goal.await_mutex-requires-clause-timeout
await_mutex-requires-clause-timeout c = waits_some c.args.self.now.rows c.args.caller c.args.id c.args.timeout c.in-Starved.at c.in-Starved.ensures

pub await_mutex-requires-clause-there : goal.await_mutex-requires-clause-there
await_mutex-requires-clause-there c = taken_there c.args.self.now.rows c.args.caller c.args.id c.args.timeout c.in-Starved.at (takes.Starved c.in-Starved.at) c.in-Starved.ensures refl

pub inherit_at_once-requires-clause-live : goal.inherit_at_once-requires-clause-live
inherit_at_once-requires-clause-live c =
    (awaits (both c.args.k.now c.args.self.now) (both c.await_mutex.new.k c.args.self.now) c.args.caller c.in-Starved.at c.args.timeout c.requires.live c.requires.kept
    (taken_there c.args.self.now.rows c.args.caller c.args.id c.args.timeout c.in-Starved.at (takes.Starved c.in-Starved.at) c.in-Starved.ensures refl) c.await_mutex.ensures).lives

pub inherit_at_once-requires-clause-urgent : goal.inherit_at_once-requires-clause-urgent
inherit_at_once-requires-clause-urgent c =
    (awaits (both c.args.k.now c.args.self.now) (both c.await_mutex.new.k c.args.self.now) c.args.caller c.in-Starved.at c.args.timeout c.requires.live c.requires.kept
    (taken_there c.args.self.now.rows c.args.caller c.args.id c.args.timeout c.in-Starved.at (takes.Starved c.in-Starved.at) c.in-Starved.ensures refl) c.await_mutex.ensures).urgent

pub inherit_at_once-requires-clause-since : goal.inherit_at_once-requires-clause-since
inherit_at_once-requires-clause-since c =
    omega (
      arith,
      c.requires.early.sinces,
      (awaits (both c.args.k.now c.args.self.now) (both c.await_mutex.new.k c.args.self.now) c.args.caller c.in-Starved.at c.args.timeout c.requires.live c.requires.kept
          (taken_there c.args.self.now.rows c.args.caller c.args.id c.args.timeout c.in-Starved.at (takes.Starved c.in-Starved.at) c.in-Starved.ensures refl) c.await_mutex.ensures).sinces,
    )

pub returns-in-Taken : goal.returns-in-Taken
returns-in-Taken c =
    let m = took_free (both c.args.k.now c.args.self.now) c.args.caller c.args.id c.args.timeout c.facts.ensures c.facts-2.ensures c.requires.live c.requires.kept c.in-Taken.at (both c.hand.new.k c.hand.new.self)
    c.in-Taken.ensures c.hand.ensures in
    record { ok = (m.fine, m.how_is, m.state); err = tt; kept = m.keeps }

pub returns-in-Retaken : goal.returns-in-Retaken
returns-in-Retaken c =
    let m = took_again (both c.args.k.now c.args.self.now) c.args.caller c.args.id c.args.timeout c.facts.ensures c.facts-2.ensures c.requires.live c.requires.kept c.in-Retaken.at (both c.deepen.new.k c.deepen.new.self)
    c.in-Retaken.ensures c.deepen.ensures in
    record { ok = (m.fine, m.how_is, m.state); err = tt; kept = m.keeps }

pub returns-in-Starved : goal.returns-in-Starved
returns-in-Starved c =
    let m = took_nothing (both c.args.k.now c.args.self.now) c.args.caller c.args.id c.args.timeout c.facts.ensures c.facts-2.ensures c.requires.live c.requires.kept c.in-Starved.at (both c.inherit_at_once.new.k c.args.self.now)
    c.in-Starved.ensures (c.inherit_at_once.ensures ∙ ap raised_at_once c.await_mutex.ensures) in
    record { ok = (m.fine, m.how_is, m.state); err = tt; kept = m.keeps }
