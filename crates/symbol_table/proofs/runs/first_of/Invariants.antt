use Rattle.symbol_table.proofs.Running.{HasCome}
use Rattle.symbol_table.proofs.runs.first_of.Given as goal

abbrev pub invariant-loop-at : goal.invariant-loop-at
invariant-loop-at l = HasCome l.group l.list l.at l.first

abbrev pub decreases-loop-at : goal.decreases-loop-at
decreases-loop-at l = l.at
