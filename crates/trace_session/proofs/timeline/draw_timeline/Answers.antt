use Rattle.std.proofs.Common.{Bor, ap, ◌∙◌}
use Rattle.std.proofs.lemmas.Result.{err_from_is_err_and}
use Rattle.wind_session.proofs.AppendingLemmas.{rose_earlier}
use Rattle.wind_session.proofs.RunLemmas.{begun}
use Rattle.trace_session.specs.Choice.{choice_state}
use Rattle.trace_session.specs.declared.choice.Choice.{Choice}
use Rattle.trace_session.specs.declared.traced.Product.TheVariants as products
use Rattle.trace_session.proofs.Seeing.{areas_told, not_lost, put_after, untold}
use Rattle.trace_session.proofs.timeline.draw_timeline.Goals as goal

-- memory ran out before the first step
pub returns-in_err-observer-clause-given_up : goal.returns-in_err-observer-clause-given_up
returns-in_err-observer-clause-given_up g c =
    let p = err_from_is_err_and c.from_residual.result c.from_residual.ensures.1 in
    rw p.1 (untold _ _ _ _ _ _ _ _ (begun _ _ c.args.limit _ c.requires.fresh))

pub returns-clause-fault : goal.returns-clause-fault
returns-clause-fault g c = λ e.
    let same = ap (λ (x : Bor Choice). choice_state x.now) (c.in_ok-end.ensures.scope ∙ c.in_ok-observer.ensures.choice) in
    rose_earlier _ _ _ c.in_ok-end.ensures.keeps.1 c.put_text.ensures.faults (c.put_text.ensures.fault (not_lost _ _ _ _ _ _ _ _ same _ _ _ c.in_ok-end.ensures.told) e)

-- the run has ended, and so have the spans
pub returns-clause-told : goal.returns-clause-told
returns-clause-told g c =
    let same = ap (λ (x : Bor Choice). choice_state x.now) (c.in_ok-end.ensures.scope ∙ c.in_ok-observer.ensures.choice) in
    areas_told _ _ _ _ _ _ _ _ same _ _ _ c.in_ok-end.ensures.told _ _ _ _ _ (ap products.Picture c.take_areas-areas.ensures) same c.in_ok-close.ensures.picture (put_after _ _ _ _ _ c.put_text.ensures.put)
