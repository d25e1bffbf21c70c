use Rattle.wind_machine.proofs.Steps as steps
use Rattle.wind_machine.proofs.laws.settle_law.Goals as goal

pub returns-clause-settle : goal.returns-clause-settle
returns-clause-settle c = steps.settles

pub returns-clause-idle : goal.returns-clause-idle
returns-clause-idle c = steps.idles
