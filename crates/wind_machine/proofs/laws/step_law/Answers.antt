use Rattle.wind_machine.proofs.Beginning.{begins}
use Rattle.wind_machine.proofs.Steps.{effect_keeps, step_keeps}
use Rattle.wind_machine.proofs.Going.{choice_stays}
use Rattle.wind_machine.proofs.Counting.{counted}
use Rattle.wind_machine.proofs.laws.step_law.Goals as goal

pub returns-clause-start : goal.returns-clause-start
returns-clause-start c = begins

pub returns-clause-step : goal.returns-clause-step
returns-clause-step c = step_keeps c.loading_law.ensures.kept

pub returns-clause-effect : goal.returns-clause-effect
returns-clause-effect c = effect_keeps c.loading_law.ensures.kept

pub returns-clause-choice : goal.returns-clause-choice
returns-clause-choice c = choice_stays c.loading_law.ensures.kept

pub returns-clause-count : goal.returns-clause-count
returns-clause-count c = counted
