use Rattle.std.proofs.Common.{[], ap, arith, refl, subst, sym, ◌∙◌}
use Rattle.std.proofs.lemmas.Result.{err_from_is_err_and}
use Rattle.kernel_world.specs.State.{WorldState}
use Rattle.trace_coverage.specs.Covered.{with_table}
use Rattle.trace_coverage.specs.Text.{Holds}
use Rattle.wind_session.proofs.AppendingLemmas.{appended_none, rose_earlier}
use Rattle.wind_session.proofs.RunLemmas.{begun}
use Rattle.wind_session.proofs.ToldLemmas.{given_up}
use Rattle.trace_session.specs.Covering.{CoversPart}
use Rattle.trace_session.specs.declared.traced.TracedRun.{TracedRun}
use Rattle.trace_session.proofs.Covering.{coverage_lost, coverage_part, coverage_told, nothing_put}
use Rattle.trace_session.proofs.Seeing.{alone}
use Rattle.trace_session.proofs.coverage.tell_coverage.Goals as goal

-- memory ran out before the first step
pub returns-in_err-coverage-clause-given_up : goal.returns-in_err-coverage-clause-given_up
returns-in_err-coverage-clause-given_up g c =
    let p = err_from_is_err_and c.from_residual.result c.from_residual.ensures.1 in
    rw p.1 (given_up (CoversPart _ _) _ _ _ _ c.args.limit 0 0 _ _ (nothing_put _ _) (omega arith) (begun _ _ c.args.limit _ c.requires.fresh))

pub tell_run-requires-clause-tells : goal.tell_run-requires-clause-tells
tell_run-requires-clause-tells g c = λ said. record {
  given = [];
  gained = appended_none _;
  holds = subst (λ (w : WorldState). Holds c.in_ok-coverage.coverage [] (with_table w.modules.rows (record { live = []; gone = [] }))) c.world.ensures c.in_ok-coverage.ensures;
}

-- a put failed under way
pub returns-in-WriteFault-clause-told : goal.returns-in-WriteFault-clause-told
returns-in-WriteFault-clause-told g c =
    rw c.text.ensures (alone _ _ _ _ _ _ _ _ refl (coverage_lost _ _ _ _ _ _ _ _ _ _ c.in_ok-end.ensures.told c.in-WriteFault.is))

-- the run has ended, and the text was put
pub returns-clause-fault : goal.returns-clause-fault
returns-clause-fault g c = λ e. rose_earlier _ _ _ c.in_ok-end.ensures.keeps.1 c.put_text.ensures.faults
    (c.put_text.ensures.fault c.in_default.not-WriteFault (sym (ap (λ (t : TracedRun). t.end) c.text-2.ensures) ∙ e))

pub returns-clause-told : goal.returns-clause-told
returns-clause-told g c =
    rw c.text-2.ensures (alone _ _ _ _ _ _ _ _ refl
    (coverage_told _ _ _ _ _ _ _ _ _ _ c.in_ok-end.ensures.told c.in_default.not-WriteFault _ _ _ c.in_ok-text.ensures (rw c.deref.ensures.value at c.put_text.ensures.put)))

-- memory ran out for the text, or for a step
pub returns-in_err-text-clause-given_up : goal.returns-in_err-text-clause-given_up
returns-in_err-text-clause-given_up g c =
    let p = err_from_is_err_and c.from_residual-in_err-text.result c.from_residual-in_err-text.ensures.1 in
    rw p.1 (coverage_part _ _ _ _ _ _ _ _ _ _ c.in_ok-end.ensures.told c.in_default.not-WriteFault)

pub returns-in_err-end-clause-given_up : goal.returns-in_err-end-clause-given_up
returns-in_err-end-clause-given_up g c =
    let p = err_from_is_err_and c.from_residual-in_err-end.result c.from_residual-in_err-end.ensures.1 in
    rw p.1 c.in_err-end.ensures.given_up
