use Rattle.wind_messages.proofs.Conserved.{conserved}
use Rattle.wind_messages.proofs.laws.message_law.Goals as goal

pub returns : goal.returns
returns c = conserved c.loading_law.ensures.alone c.run_law.ensures
