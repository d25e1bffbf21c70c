use Rattle.wind_console.proofs.Conserved.{conserved}
use Rattle.wind_console.proofs.laws.console_law.Goals as goal

pub returns : goal.returns
returns c = conserved c.run_law.ensures
