use Rattle.std.proofs.Common.{ap, ◌∙◌, sym, length}
use Rattle.std.proofs.lemmas.Bool.{eqb-true}
use Rattle.inheritance.proofs.Nobody.{nobody_holds, nobody_pends}
use Rattle.inheritance.proofs.settling.surely_nobody_waits.Goals as goal

pub returns-then-surely_none_holds : goal.returns-then-surely_none_holds
returns-then-surely_none_holds c e = nobody_holds c.args.k.now.tasks (c.if-surely_none_holds.ensures e)

pub returns : goal.returns
returns c e = nobody_pends c.args.k.now.tasks (ap (λ l. length l.waiters) (sym c.waits.ensures) ∙ sym c.len.ensures ∙ eqb-true c.len.result 0 e)
