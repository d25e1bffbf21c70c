use Rattle.std.proofs.Common.{refl}
use Rattle.inheritance.specs.Mutexes.{both}
use Rattle.sem_mutex.specs.declared.plans.GivePlan.TheVariants as gives
use Rattle.sem_mutex.proofs.Answering.{given_there, gave_once, gave_up}
use Rattle.sem_mutex.proofs.mutexes.Mutexes.give.Goals as goal

pub give_once-requires-clause-there : goal.give_once-requires-clause-there
give_once-requires-clause-there c = given_there c.args.self.now.rows c.args.caller c.args.id c.in-Lowered.at (gives.Lowered c.in-Lowered.at) c.in-Lowered.ensures refl

pub give_last-requires-clause-there : goal.give_last-requires-clause-there
give_last-requires-clause-there c = given_there c.args.self.now.rows c.args.caller c.args.id c.in-GivenUp.at (gives.GivenUp c.in-GivenUp.at) c.in-GivenUp.ensures refl

pub returns-in-Lowered : goal.returns-in-Lowered
returns-in-Lowered c =
    let m = gave_once (both c.args.k.now c.args.self.now) c.args.caller c.args.id c.facts.ensures c.facts-2.ensures c.requires.live c.requires.kept c.in-Lowered.at (both c.give_once.new.k c.give_once.new.self)
    c.in-Lowered.ensures c.give_once.ensures in
    record { ok = (m.fine, m.state); err = tt; kept = m.keeps }

pub returns-in-GivenUp : goal.returns-in-GivenUp
returns-in-GivenUp c =
    let m = gave_up (both c.args.k.now c.args.self.now) c.args.caller c.args.id c.facts.ensures c.facts-2.ensures c.requires.live c.requires.kept c.in-GivenUp.at (both c.give_last.new.k c.give_last.new.self)
    c.in-GivenUp.ensures c.give_last.ensures in
    record { ok = (m.fine, m.state); err = tt; kept = m.keeps }
