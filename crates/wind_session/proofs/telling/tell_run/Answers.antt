use Rattle.std.proofs.Common.{arith}
use Rattle.std.proofs.lemmas.Result.{IfOk-weaker, on_err_weaker}
use Rattle.wind_session.proofs.RunLemmas.{begun, nothing_said}
use Rattle.wind_session.proofs.telling.tell_run.Goals as goal

-- a run begins with no step
pub returns-clause-told : goal.returns-clause-told
returns-clause-told g c =
    IfOk-weaker c.tell_steps.result _ _ (λ end told. told nothing_said _ c.args.limit 0 _ (omega arith) (record { run = begun _ _ c.args.limit _ c.requires.fresh; told = c.requires.tells nothing_said })) c.tell_steps.ensures.told

pub returns-clause-given_up : goal.returns-clause-given_up
returns-clause-given_up g c =
    on_err_weaker c.tell_steps.result (λ told. told nothing_said _ c.args.limit 0 _ (omega arith) (record { run = begun _ _ c.args.limit _ c.requires.fresh; told = c.requires.tells nothing_said })) c.tell_steps.ensures.given_up
