use Rattle.wind_machine.proofs.Courses.{runs_keep}
use Rattle.wind_machine.proofs.laws.run_law.Goals as goal

pub returns : goal.returns
returns c = runs_keep c.step_law.ensures.start c.step_law.ensures.step c.step_law.ensures.choice c.instant_law.ensures c.safety_law.ensures c.early_law.ensures
