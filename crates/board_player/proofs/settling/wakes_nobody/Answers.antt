use Rattle.std.proofs.Common.{◌≡◌, ◌∙◌, ◌+◌, Bool, true, false, not, ℕ, Option, None, Some, is_some, ap, sym, refl}
use Rattle.wind_core.specs.Orders.{first_due}
use Rattle.wind_core.proofs.Due.{due_first}
use Rattle.wind_core.proofs.Ticks.{none_due, none_named}
use Rattle.board_player.proofs.settling.wakes_nobody.Goals as goal

no_task : (o : Option ℕ) (r : Bool) → is_some o ≡ not r → r ≡ true → o ≡ None
no_task None r e is = refl
no_task (Some x) r e is = let bad : true ≡ false = e ∙ ap not is in absurd (cc)

pub returns : goal.returns
returns c = λ is.
    let k = c.args.kern.now in
    let none = no_task c.first_due.result c.is_none.result c.is_none.ensures is in
    let found = rw (c.delays.ensures, c.ticks.ensures) at c.first_due.ensures in
    let first = sym none ∙ found ∙ due_first k.tick k.tasks c.facts.ensures.ahead in
    none_due k.tasks (k.tick + 1) (none_named (first_due k.tasks (k.tick + 1)) first)
