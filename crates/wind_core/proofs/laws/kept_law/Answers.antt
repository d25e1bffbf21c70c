use Rattle.wind_core.proofs.Moving.{move_keeps, moves_keep}
use Rattle.wind_core.proofs.laws.kept_law.Goals as goal

pub returns-clause-one : goal.returns-clause-one
returns-clause-one c = move_keeps

pub returns-clause-series : goal.returns-clause-series
returns-clause-series c = moves_keep
