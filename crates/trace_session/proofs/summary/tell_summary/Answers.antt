use Rattle.std.proofs.Common.{ap, refl, subst, sym, ◌∙◌}
use Rattle.wind_session.proofs.AppendingLemmas.{rose_earlier}
use Rattle.trace_session.specs.Traced.{IsPutOf}
use Rattle.trace_session.specs.declared.traced.TracedRun.{TracedRun}
use Rattle.trace_session.proofs.Counting.{summary_told}
use Rattle.trace_session.proofs.Seeing.{alone}
use Rattle.trace_session.proofs.summary.tell_summary.Goals as goal

pub returns-clause-told : goal.returns-clause-told
returns-clause-told g c =
    rw c.text.ensures (alone _ _ _ _ _ _ _ _ refl (summary_told _ _ _ _ _ _ _ _ _ c.in_ok-run.ensures.told _ _ _ _ c.in_ok-run.ensures.bytes c.in_ok-text.ensures (subst (λ text. IsPutOf text c.put_text.result c.in_ok-run.run'.end (g.O.Sink.bytes c.sum_up.new.out) (g.O.Sink.bytes c.put_text.new.out)) c.deref.ensures.value c.put_text.ensures.put)))

pub returns-clause-fault : goal.returns-clause-fault
returns-clause-fault g c = λ e.
    rose_earlier _ _ _ c.in_ok-run.ensures.keeps.1 c.put_text.ensures.faults (c.put_text.ensures.fault c.in_ok-run.ensures.put (ap (λ (t : TracedRun). t.end) (sym c.text.ensures) ∙ e))
