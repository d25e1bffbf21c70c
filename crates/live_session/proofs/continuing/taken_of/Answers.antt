use Rattle.std.proofs.Common.{◌≡◌, Bool, Err, ap, arith, false, length, rules, subst, sym, true}
use Rattle.wind_outside.specs.Counts.{Rose}
use Rattle.live_session.specs.Continuing.{Kept, TakesOver}
use Rattle.live_session.specs.Session.{IsRefusal, status_unless}
use Rattle.live_session.specs.Words.{command_state, kept_of}
use Rattle.live_session.specs.declared.reading.NotContinued.{NotContinued}
use Rattle.live_session.specs.declared.saving.Unsaved.{Unsaved}
use Rattle.live_session.specs.declared.status.Status.TheVariants as status
use Rattle.live_session.proofs.Taking.{going_refusal}
use Rattle.live_session.proofs.continuing.taken_of.Goals as goal

-- ---- a new session
pub returns-then-not-target-clause-takes : goal.returns-then-not-target-clause-takes
returns-then-not-target-clause-takes g c =
    let no : c.args.target.command.now.continues ≡ false = search rules in
    subst (λ (b : Bool). TakesOver b (command_state c.args.target.command.now) (kept_of c.nothing.result) (g.D.RecordFolder.files c.args.records.now)) (sym no) c.nothing.ensures.kept

pub returns-then-not-target-clause-short : goal.returns-then-not-target-clause-short
returns-then-not-target-clause-short g c = (
  omega (arith, ap (λ (k : Kept). length k.console) c.nothing.ensures.kept),
  omega (arith, ap (λ (k : Kept). length k.ticks) c.nothing.ensures.kept),
)

pub returns-then-not-target-clause-few : goal.returns-then-not-target-clause-few
returns-then-not-target-clause-few g c = omega (arith, ap (λ (k : Kept). k.limit) c.nothing.ensures.kept)

-- ---- one that goes on
pub returns-in-Ok-clause-takes : goal.returns-in-Ok-clause-takes
returns-in-Ok-clause-takes g c =
    let yes : c.args.target.command.now.continues ≡ true = search rules in
    subst (λ (b : Bool). TakesOver b (command_state c.args.target.command.now) (kept_of c.in-Ok.taken) (g.D.RecordFolder.files c.args.records.now)) (sym yes) c.in-Ok.ensures.takes

-- ---- or doesn't
pub returns-in-Err-clause-refused : goal.returns-in-Err-clause-refused
returns-in-Err-clause-refused g c =
    let yes : c.args.target.command.now.continues ≡ true = search rules in
    let rose : Type 0 = Rose (g.D.RecordFolder.faults c.args.records.now) (g.D.RecordFolder.faults c.take_over.new.records) in
    subst (λ (failure : Unsaved). IsRefusal (status_unless failure status.Ended) (command_state c.args.target.command.now) (g.D.RecordFolder.files c.args.records.now) rose) (sym c.unsaved_for.ensures)
    (going_refusal c.in-Err.reason (command_state c.args.target.command.now) (g.D.RecordFolder.files c.args.records.now) rose (c.requires.named yes) yes c.in-Err.ensures.reason
    (λ e. c.in-Err.ensures.failed (ap (λ (r : NotContinued). Err r) e)))
