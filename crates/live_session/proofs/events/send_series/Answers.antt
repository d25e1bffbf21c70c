use Rattle.std.proofs.Common.{◌∙◌, ◌+◌, [], None, Err, ap, arith, subst, sym}
use Rattle.std.proofs.lemmas.List.{append-nil}
use Rattle.wind_session.specs.declared.run.RunEnd.TheVariants as ends
use Rattle.live_session.specs.Journal.{Journaled}
use Rattle.live_session.specs.LiveAround.{store}
use Rattle.live_session.specs.Seen.{LiveState, StaysLive, live_by}
use Rattle.live_session.specs.Spacing.{time_due}
use Rattle.live_session.specs.Words.{command_state}
use Rattle.live_session.specs.declared.saving.Unsaved.{Unsaved}
use Rattle.live_session.proofs.Flow.{stays_same}
use Rattle.live_session.proofs.Journaling.{here_sent, journal_both, journal_event, journal_none, journal_unadded}
use Rattle.live_session.proofs.Spacings.{Spaced, spaced_begin, spaced_end, spaced_failed, spaced_more, spaced_refused, stays_on}
use Rattle.live_session.proofs.events.send_series.Goals as goal

pub loop-count-init : goal.loop-count-init
loop-count-init g c =
    let live = live_by (λ d. (goal.Device-dyn g (d.vtable, d.value)).kind_of d.value) (λ d. (goal.Device-dyn g (d.vtable, d.value)).words_of d.value) in
    let l : LiveState = live c.args.live.now in
    record {
      spaced =
          subst (λ t. Spaced c.args.series.count c.args.series.period c.args.series.event l.board.time l 0 t l) (sym c.time-time.ensures)
          (spaced_begin _ _ _ _ l (stays_same l c.requires.sound));
      journal = λ a. journal_none _ _ _ _ _;
    }

pub loop-count-preserved : goal.loop-count-preserved
loop-count-preserved g c =
    let live = live_by (λ d. (goal.Device-dyn g (d.vtable, d.value)).kind_of d.value) (λ d. (goal.Device-dyn g (d.vtable, d.value)).words_of d.value) in
    let on = c.loop-count.invariant in
    let here : LiveState = live c.loop-count.live in
    record {
      spaced = spaced_more _ _ _ _ _ _ _ _ on.spaced (omega arith) _ _ (sym c.from-time.ensures) c.in-Ok.ensures.ok.0 c.in-Ok.ensures.ok.1;
      journal = λ a.
          journal_both _ _ ends.Limit _ _ _ _ a a a _ _ _ (here_sent _ _ _ a on.spaced.stays) (on.journal a)
          (journal_event c.writing_law.ensures.written c.extend_law.ensures.run c.live_law.ensures.records c.writing_law.ensures.longer _ _ _ a (time_due (c.loop-count.time + c.args.series.period) here) (omega arith) c.args.series.event [] c.deref.result.now
          on.spaced.stays.sound c.in-Ok.ensures.ok.1 c.requires.range c.in-Ok.ensures.ok.0 (c.deref.ensures.value ∙ c.in-Ok.ensures.line) _ _ c.note_event.ensures.writes c.note_event.ensures.never_falls c.in_default.ensures.ok);
    }

-- the next one was refused
pub returns-in-Err-clause-stays : goal.returns-in-Err-clause-stays
returns-in-Err-clause-stays g c =
    let live = live_by (λ d. (goal.Device-dyn g (d.vtable, d.value)).kind_of d.value) (λ d. (goal.Device-dyn g (d.vtable, d.value)).words_of d.value) in
    subst (λ (m : LiveState). StaysLive (live c.args.live.now) m) (sym c.in-Err.ensures.err) c.loop-count.invariant.spaced.stays

pub returns-in-Err-clause-console : goal.returns-in-Err-clause-console
returns-in-Err-clause-console g c = ap (λ (m : LiveState). m.console.bytes) c.in-Err.ensures.err ∙ c.loop-count.invariant.spaced.console

pub returns-in-Err-clause-sent : goal.returns-in-Err-clause-sent
returns-in-Err-clause-sent g c = spaced_refused _ _ _ _ _ _ _ _ c.loop-count.invariant.spaced (omega arith) _ _ c.in-Err.ensures.err c.in-Err.ensures.cause

pub returns-in-Err-clause-journal : goal.returns-in-Err-clause-journal
returns-in-Err-clause-journal g c = λ a.
    let live = live_by (λ d. (goal.Device-dyn g (d.vtable, d.value)).kind_of d.value) (λ d. (goal.Device-dyn g (d.vtable, d.value)).words_of d.value) in
    subst (λ (m : LiveState). Journaled (command_state c.args.target.command.now) None ends.Limit (live c.args.live.now) a (store g.D.RecordFolder c.args.records.now) m a (store g.D.RecordFolder c.loop-count.records)) (sym c.in-Err.ensures.err)
    (c.loop-count.invariant.journal a)

-- it was sent, and is not in the record's files
pub returns-in-Err-note_event-clause-stays : goal.returns-in-Err-note_event-clause-stays
returns-in-Err-note_event-clause-stays g c = stays_on _ _ _ c.loop-count.invariant.spaced.stays c.in-Ok.ensures.ok.1

pub returns-in-Err-note_event-clause-console : goal.returns-in-Err-note_event-clause-console
returns-in-Err-note_event-clause-console g c = c.in-Ok.ensures.ok.0.console ∙ append-nil _ ∙ c.loop-count.invariant.spaced.console

pub returns-in-Err-note_event-clause-sent : goal.returns-in-Err-note_event-clause-sent
returns-in-Err-note_event-clause-sent g c =
    spaced_failed _ _ _ _ _ _ _ _ (spaced_more _ _ _ _ _ _ _ _ c.loop-count.invariant.spaced (omega arith) _ _ c.in-Ok.ensures.ok.0.last c.in-Ok.ensures.ok.0 c.in-Ok.ensures.ok.1) c.in-Err-note_event.failure

pub returns-in-Err-note_event-clause-journal : goal.returns-in-Err-note_event-clause-journal
returns-in-Err-note_event-clause-journal g c = λ a.
    let live = live_by (λ d. (goal.Device-dyn g (d.vtable, d.value)).kind_of d.value) (λ d. (goal.Device-dyn g (d.vtable, d.value)).words_of d.value) in
    let on = c.loop-count.invariant in
    let here : LiveState = live c.loop-count.live in
    journal_both _ _ ends.Limit _ _ _ _ a a a _ _ _ (here_sent _ _ _ a on.spaced.stays) (on.journal a)
    (journal_unadded c.writing_law.ensures.written c.extend_law.ensures.run c.live_law.ensures.records c.writing_law.ensures.longer _ _ _ a (time_due (c.loop-count.time + c.args.series.period) here) (omega arith) c.args.series.event [] c.deref.result.now
    on.spaced.stays.sound c.in-Ok.ensures.ok.1 c.requires.range c.in-Ok.ensures.ok.0 (c.deref.ensures.value ∙ c.in-Ok.ensures.line) c.in-Err-note_event.failure _ _
    (record {
      named = c.in-Err-note_event.ensures.unnamed;
      writes = c.note_event.ensures.writes;
      faults = c.note_event.ensures.never_falls;
      failed = λ e. c.in-Err-note_event.ensures.failed (ap (λ (f : Unsaved). Err f) e);
    })
    c.in-Err-note_event.ensures.err)

-- all were sent
pub returns-clause-stays : goal.returns-clause-stays
returns-clause-stays g c = c.loop-count.invariant.spaced.stays

pub returns-clause-console : goal.returns-clause-console
returns-clause-console g c = c.loop-count.invariant.spaced.console

pub returns-clause-sent : goal.returns-clause-sent
returns-clause-sent g c = spaced_end _ _ _ _ _ _ _ _ c.loop-count.invariant.spaced (omega arith)

pub returns-clause-journal : goal.returns-clause-journal
returns-clause-journal g c = c.loop-count.invariant.journal
