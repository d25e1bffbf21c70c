use Rattle.std.proofs.Common.{subst}
use Rattle.wind_outside.specs.Appending.{Appended, AppendedPrefix}
use Rattle.trace_session.proofs.Covering.{covers_lost, covers_more}
use Rattle.trace_session.proofs.coverage.put_gone.Goals as goal

-- its text was put, or that put failed
pub returns-clause-done : goal.returns-clause-done
returns-clause-done g c = λ done first said s k covers.
    covers_more c.args.coverage.now first _ said s k covers c.clear_text.new.self _ c.clear_text.ensures
    (subst (Appended _ _) c.text-2.ensures (c.put-put.ensures.done done))

pub returns-clause-part : goal.returns-clause-part
returns-clause-part g c = λ failed first said s k covers.
    covers_lost c.args.coverage.now first _ said s k covers _ (subst (AppendedPrefix _ _) c.text-2.ensures c.put-put.ensures.part)
