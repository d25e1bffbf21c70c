use Rattle.std.proofs.Common.{◌≡◌, false}
use Rattle.loader_cases.proofs.opening.spend.Given as goal

abbrev pub invariant-loop : goal.invariant-loop
invariant-loop l = l.kern.lent ≡ false
