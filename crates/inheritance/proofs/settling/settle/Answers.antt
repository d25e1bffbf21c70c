use Rattle.std.proofs.Common.{refl, sym, subst}
use Rattle.wind_core.specs.State.{KernState}
use Rattle.inheritance.specs.Laws.{NobodyWaits, OwnersHold}
use Rattle.inheritance.proofs.settling.settle.Goals as goal

pub settle_alone-requires-clause-owners : goal.settle_alone-requires-clause-owners
settle_alone-requires-clause-owners c = subst (λ (s : KernState). OwnersHold c.args.mutexes.now.rows s.tasks) (sym c.nobody_waits.ensures.kern) c.requires.owners

pub settle_alone-requires-clause-nobody : goal.settle_alone-requires-clause-nobody
settle_alone-requires-clause-nobody c = subst (λ (s : KernState). NobodyWaits s.tasks) (sym c.nobody_waits.ensures.kern) (c.if-nobody_waits.ensures.nobody refl)

pub settle_all-requires-clause-owners : goal.settle_all-requires-clause-owners
settle_all-requires-clause-owners c = subst (λ (s : KernState). OwnersHold c.args.mutexes.now.rows s.tasks) (sym c.nobody_waits.ensures.kern) c.requires.owners
