use Rattle.wind_core.proofs.Ticking.{tick_keeps, tick_ahead}
use Rattle.wind_core.proofs.laws.tick_law.Goals as goal

pub returns : goal.returns
returns c = record { kept = tick_keeps; ahead = tick_ahead }
