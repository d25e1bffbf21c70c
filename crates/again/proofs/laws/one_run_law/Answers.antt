use Rattle.again.proofs.Runs.{one_run, own_answers}
use Rattle.again.proofs.laws.one_run_law.Goals as goal

pub returns-clause-one : goal.returns-clause-one
returns-clause-one c = one_run

pub returns-clause-answers : goal.returns-clause-answers
returns-clause-answers c = own_answers
