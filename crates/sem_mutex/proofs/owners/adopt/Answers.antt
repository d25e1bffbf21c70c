use Rattle.std.proofs.Common.{ap, sym, subst, arith}
use Rattle.wind_core.specs.State.{Lives, task_of}
use Rattle.task_safety.specs.Safety.{safe_of}
use Rattle.sem_mutex.proofs.Answering.{holding_lives, holding_safe}
use Rattle.sem_mutex.proofs.owners.adopt.Goals as goal

pub guard-requires-clause-live : goal.guard-requires-clause-live
guard-requires-clause-live c = subst (λ k. Lives k c.args.who) (sym c.hold.ensures) (holding_lives c.args.k.now c.args.who c.args.m.now c.requires.live)

pub guard-requires-clause-safe : goal.guard-requires-clause-safe
guard-requires-clause-safe c =
    let same = ap (λ k. safe_of (task_of k.tasks c.args.who)) c.hold.ensures in
    omega (arith, same, holding_safe c.args.k.now c.args.who c.args.m.now, c.requires.safe)
