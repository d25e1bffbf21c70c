use Rattle.std.proofs.Common.{ap, arith, rules, Err}
use Rattle.live_session.specs.Ending.{IsGoing}
use Rattle.live_session.specs.declared.saving.Unsaved.{Unsaved}
use Rattle.live_session.proofs.Journaling.{journal_failed, journal_limit, journal_on, journal_ran}
use Rattle.live_session.proofs.Replays.{limit_reached}
use Rattle.live_session.proofs.live.go.Goals as goal

-- a fault ended the run
pub returns-then-not-can_run-clause-journal : goal.returns-then-not-can_run-clause-journal
returns-then-not-can_run-clause-journal g c =
    journal_ran c.writing_law.ensures.written _ _ _ _ _ _ _ _ c.most_after-limit.result
    (record { written = c.in_default.ensures.ok; writes = c.note_limit.ensures.writes; faults = c.note_limit.ensures.never_falls })
    c.requires.sound c.make_steps-end.ensures.runs c.make_steps-end.ensures.record_is
    (omega (arith, c.most_after-limit.ensures.value, c.steps.ensures)) (omega (arith, c.most_after-limit.ensures.value, c.steps.ensures, c.make_steps-end.ensures.within)) c.most_after-limit.ensures.within

-- the run can go on, and the limit was written
pub returns-in-Ok-clause-journal : goal.returns-in-Ok-clause-journal
returns-in-Ok-clause-journal g c =
    let end = c.make_steps-end.result in
    let going : IsGoing end = search rules in
    let runs = c.make_steps-end.ensures.runs in
    let ran =
    journal_ran c.writing_law.ensures.written _ end _ _ _ _ _ _ c.most_after-limit.result
    (record { written = c.in_default.ensures.ok; writes = c.note_limit.ensures.writes; faults = c.note_limit.ensures.never_falls })
    c.requires.sound runs c.make_steps-end.ensures.record_is
    (omega (arith, c.most_after-limit.ensures.value, c.steps.ensures)) (omega (arith, c.most_after-limit.ensures.value, c.steps.ensures, c.make_steps-end.ensures.within)) c.most_after-limit.ensures.within in
    journal_on _ _ end end _ _ _ _ _ _ _ _ _ runs going ran
    (journal_limit c.writing_law.ensures.written _ end _ _ _ _ c.replay_limit-limit.result
    (record { written = c.in-Ok.ensures.ok; writes = c.note_limit-2.ensures.writes; faults = c.note_limit-2.ensures.never_falls })
    runs.sound (omega (arith, c.replay_limit-limit.ensures.value, c.steps-2.ensures, limit_reached c.steps-2.result c.eq.result)) c.replay_limit-limit.ensures.within)

-- or wasn't
pub returns-in-Err-note_limit-clause-journal : goal.returns-in-Err-note_limit-clause-journal
returns-in-Err-note_limit-clause-journal g c =
    let end = c.make_steps-end.result in
    let going : IsGoing end = search rules in
    let runs = c.make_steps-end.ensures.runs in
    let ran =
    journal_ran c.writing_law.ensures.written _ end _ _ _ _ _ _ c.most_after-limit.result
    (record { written = c.in_default.ensures.ok; writes = c.note_limit.ensures.writes; faults = c.note_limit.ensures.never_falls })
    c.requires.sound runs c.make_steps-end.ensures.record_is
    (omega (arith, c.most_after-limit.ensures.value, c.steps.ensures)) (omega (arith, c.most_after-limit.ensures.value, c.steps.ensures, c.make_steps-end.ensures.within)) c.most_after-limit.ensures.within in
    journal_on _ _ end end _ _ _ _ _ _ _ _ _ runs going ran
    (journal_failed _ c.in-Err-note_limit.failure end _ _ _ _
    (record {
      named = c.in-Err-note_limit.ensures.unnamed;
      writes = c.note_limit-2.ensures.writes;
      faults = c.note_limit-2.ensures.never_falls;
      failed = λ e. c.in-Err-note_limit.ensures.failed (ap (λ (f : Unsaved). Err f) e);
    })
    going c.in-Err-note_limit.ensures.err)
