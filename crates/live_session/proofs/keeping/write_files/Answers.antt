use Rattle.std.proofs.Common.{◌≡◌, ℕ, List, subst, sym}
use Rattle.wind_session.specs.Keeping.{messages}
use Rattle.live_session.specs.Moments.{IsTold}
use Rattle.live_session.specs.Telling.{failure_text, unwritten_text}
use Rattle.live_session.specs.declared.saving.Unsaved.{Unsaved}
use Rattle.live_session.specs.declared.saving.Unsaved.TheVariants as unsaved
use Rattle.live_session.proofs.keeping.write_files.Goals as goal

-- writing failed, which was told
pub returns-in-Err-Failed-clause-told : goal.returns-in-Err-Failed-clause-told
returns-in-Err-Failed-clause-told g c =
    let failed : c.in-Err-Failed.field-0 ≡ unsaved.Failed = rw c.in-Err-Failed.is at c.in-Err-Failed.field-0-is in
    rw c.in-Err-Failed.is
    (subst (λ (failure : Unsaved). IsTold (failure_text c.args.target.command.now.record.now failure) (messages g.E.Sink c.args.err.now) (messages g.E.Sink c.tell_of.new.err)) (sym failed)
    (subst (λ (name : List ℕ). IsTold (unwritten_text name) (messages g.E.Sink c.args.err.now) (messages g.E.Sink c.tell_of.new.err)) c.as_bytes-name.ensures.value c.tell_of.ensures.printed))
