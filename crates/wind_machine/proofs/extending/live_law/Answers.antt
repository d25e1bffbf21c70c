use Rattle.wind_machine.proofs.Joining.{grows, records_extend}
use Rattle.wind_machine.proofs.extending.live_law.Goals as goal

pub returns-clause-records : goal.returns-clause-records
returns-clause-records c = records_extend

pub returns-clause-grows : goal.returns-clause-grows
returns-clause-grows c = grows
