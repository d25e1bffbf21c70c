use Rattle.std.proofs.Common.{refl}
use Rattle.wind_session.proofs.AppendingLemmas.{rose_earlier}
use Rattle.trace_session.specs.declared.traced.Product.TheVariants as products
use Rattle.trace_session.proofs.Counting.{table_told}
use Rattle.trace_session.proofs.Seeing.{put_after}
use Rattle.trace_session.proofs.summary.tell_table.Goals as goal

pub returns-clause-told : goal.returns-clause-told
returns-clause-told g c =
    table_told _ _ _ _ _ _ _ _ _ c.in_ok-end.ensures.told (products.Table c.in_ok-end.field-0.summary) refl (put_after _ _ _ _ _ c.put_text.ensures.put)

pub returns-clause-fault : goal.returns-clause-fault
returns-clause-fault g c = λ e.
    rose_earlier _ _ _ c.in_ok-end.ensures.keeps.1 c.put_text.ensures.faults (c.put_text.ensures.fault c.in_ok-end.ensures.put e)
