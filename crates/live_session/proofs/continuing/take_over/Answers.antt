use Rattle.std.proofs.Common.{◌∙◌, Option, ap, arith, length, refl, subst}
use Rattle.std.proofs.lemmas.Result.{err_from_is_err_and}
use Rattle.wind_outside.specs.Files.{Files}
use Rattle.live_session.specs.Continuing.{IsReasonFor}
use Rattle.live_session.specs.Words.{command_state}
use Rattle.live_session.specs.declared.reading.RecordFile.TheVariants as parts
use Rattle.live_session.proofs.Taking.{has_as, reason_failed, reason_texts, reason_words, taken_there}
use Rattle.live_session.proofs.continuing.take_over.Goals as goal

-- ---- why a session doesn't go on
pub returns-in_err-words-clause-reason : goal.returns-in_err-words-clause-reason
returns-in_err-words-clause-reason g c =
    let p = err_from_is_err_and c.from_residual.result c.from_residual.ensures.1 in
    rw (p.1, p.2) c.in_err-words.ensures.reason

pub returns-in_err-limit-clause-reason : goal.returns-in_err-limit-clause-reason
returns-in_err-limit-clause-reason g c =
    let p = err_from_is_err_and c.from_residual-in_err-limit.result c.from_residual-in_err-limit.ensures.1 in
    rw (p.1, p.2)
    (reason_words (command_state c.args.target.command.now) (g.D.RecordFolder.files c.args.records.now) c.deref.result.now c.in_err-limit.field-0.0
    (has_as (command_state c.args.target.command.now) _ _ parts.Command _ _ refl c.deref.ensures.value c.in_ok-words.ensures.ok) c.in_err-limit.ensures.err)

pub returns-in_err-console-clause-reason : goal.returns-in_err-console-clause-reason
returns-in_err-console-clause-reason g c =
    let p = err_from_is_err_and c.from_residual-in_err-console.result c.from_residual-in_err-console.ensures.1 in
    rw (p.1, p.2)
    (subst (λ (f : Option Files). IsReasonFor (command_state c.args.target.command.now) f c.in_err-console.field-0.0) c.read_file.ensures.files c.in_err-console.ensures.reason)

pub returns-in_err-ticks-clause-reason : goal.returns-in_err-ticks-clause-reason
returns-in_err-ticks-clause-reason g c =
    let p = err_from_is_err_and c.from_residual-in_err-ticks.result c.from_residual-in_err-ticks.ensures.1 in
    rw (p.1, p.2)
    (subst (λ (f : Option Files). IsReasonFor (command_state c.args.target.command.now) f c.in_err-ticks.field-0.0) (c.read_file-2.ensures.files ∙ c.read_file.ensures.files) c.in_err-ticks.ensures.reason)

pub returns-in_err-texts-clause-reason : goal.returns-in_err-texts-clause-reason
returns-in_err-texts-clause-reason g c =
    let p = err_from_is_err_and c.from_residual-in_err-texts.result c.from_residual-in_err-texts.ensures.1 in
    rw (p.1, p.2)
    (reason_texts (command_state c.args.target.command.now) (g.D.RecordFolder.files c.args.records.now) c.deref-2.result.now c.deref-3.result.now c.in_err-texts.field-0.0
    (has_as (command_state c.args.target.command.now) _ _ parts.Console _ _ c.read_file.ensures.files c.deref-2.ensures.value c.in_ok-console.ensures.ok)
    (has_as (command_state c.args.target.command.now) _ _ parts.Ticks _ _ (c.read_file-2.ensures.files ∙ c.read_file.ensures.files) c.deref-3.ensures.value c.in_ok-ticks.ensures.ok)
    c.in_err-texts.ensures.err)

pub returns-in_err-clear_beside-clause-reason : goal.returns-in_err-clear_beside-clause-reason
returns-in_err-clear_beside-clause-reason g c =
    let p = err_from_is_err_and c.from_residual-in_err-clear_beside.result c.from_residual-in_err-clear_beside.ensures.1 in
    rw (p.1, p.2) (reason_failed _ _ _ c.in_err-clear_beside.ensures.refused)

-- ---- what is taken over
pub returns-clause-takes : goal.returns-clause-takes
returns-clause-takes g c =
    taken_there (command_state c.args.target.command.now) (g.D.RecordFolder.files c.args.records.now) c.deref.result.now c.deref-2.result.now c.deref-3.result.now _
    (has_as (command_state c.args.target.command.now) _ _ parts.Command _ _ refl c.deref.ensures.value c.in_ok-words.ensures.ok)
    (has_as (command_state c.args.target.command.now) _ _ parts.Console _ _ c.read_file.ensures.files c.deref-2.ensures.value c.in_ok-console.ensures.ok)
    (has_as (command_state c.args.target.command.now) _ _ parts.Ticks _ _ (c.read_file-2.ensures.files ∙ c.read_file.ensures.files) c.deref-3.ensures.value c.in_ok-ticks.ensures.ok)
    c.in_ok-limit.ensures.ok.0 c.in_ok-limit.ensures.ok.1
    (omega (arith, ap length c.deref-2.ensures.value, c.in_ok-console.ensures.short))
    (omega (arith, ap length c.deref-3.ensures.value, c.in_ok-ticks.ensures.short))
    c.in_ok-texts.ensures.ok.0

pub returns-clause-short : goal.returns-clause-short
returns-clause-short g c = (
  omega (arith, c.in_ok-texts.ensures.short.0, ap length c.deref-2.ensures.value, c.in_ok-console.ensures.short),
  omega (arith, c.in_ok-texts.ensures.short.1, ap length c.deref-3.ensures.value, c.in_ok-ticks.ensures.short),
)
