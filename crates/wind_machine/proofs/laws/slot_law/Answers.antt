use Rattle.wind_machine.proofs.SlotRuns.{slot_steps, lines_open, lines_valid}
use Rattle.wind_machine.proofs.SlotRemovals.{removals_alone}
use Rattle.wind_machine.proofs.laws.slot_law.Goals as goal

pub returns-clause-step : goal.returns-clause-step
returns-clause-step c = slot_steps

pub returns-clause-removal : goal.returns-clause-removal
returns-clause-removal c = removals_alone

pub returns-clause-open : goal.returns-clause-open
returns-clause-open c = lines_open

pub returns-clause-lines : goal.returns-clause-lines
returns-clause-lines c = lines_valid
