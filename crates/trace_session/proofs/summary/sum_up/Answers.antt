use Rattle.std.proofs.Common.{ap, refl}
use Rattle.std.proofs.lemmas.Result.{err_from_is_err_and}
use Rattle.wind_session.proofs.RunLemmas.{begun}
use Rattle.generated_session.specs.Puts.{SinkLog}
use Rattle.trace_session.proofs.Counting.{none_put, not_lost, summed_up}
use Rattle.trace_session.proofs.Seeing.{untold}
use Rattle.trace_session.proofs.summary.sum_up.Goals as goal

-- memory ran out before the first step
pub returns-in_err-counter-clause-given_up : goal.returns-in_err-counter-clause-given_up
returns-in_err-counter-clause-given_up g c =
    let p = err_from_is_err_and c.from_residual.result c.from_residual.ensures.1 in
    rw p.1 (untold _ _ _ _ _ _ _ _ (begun _ _ c.args.limit _ c.requires.fresh))

-- nothing was counted yet
pub tell_run-requires-clause-tells : goal.tell_run-requires-clause-tells
tell_run-requires-clause-tells g c = λ said. (refl, c.in_ok-counter.ensures.tally, c.in_ok-counter.ensures.watch)

pub returns-clause-told : goal.returns-clause-told
returns-clause-told g c =
    summed_up _ _ _ _ _ _ _ _ _ _ _ c.in_ok-end.ensures.told _ _ _ _ c.time-time.ensures c.steps.ensures c.in_ok-close.ensures c.in_ok-summary.ensures

pub returns-clause-bytes : goal.returns-clause-bytes
returns-clause-bytes g c = ap (λ (x : SinkLog). x.bytes) (none_put _ _ _ _ _ _ _ _ _ _ _ c.in_ok-end.ensures.told)

pub returns-clause-put : goal.returns-clause-put
returns-clause-put g c = not_lost _ _ _ _ _ _ _ _ _ _ _ c.in_ok-end.ensures.told
