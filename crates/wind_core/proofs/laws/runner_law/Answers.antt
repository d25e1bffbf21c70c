use Rattle.wind_core.proofs.Lawful.{runner_may, lock_keeps, nobody_ready}
use Rattle.wind_core.proofs.laws.runner_law.Goals as goal

pub returns : goal.returns
returns c = record { runs = runner_may; lock = lock_keeps; idle = nobody_ready }
