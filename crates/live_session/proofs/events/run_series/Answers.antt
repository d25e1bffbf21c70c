use Rattle.std.proofs.Common.{ℕ, ◌∙◌, Some, ap, inl, inr, refl, subst, sym}
use Rattle.wind_base.specs.OutBuf.{Output}
use Rattle.wind_session.specs.Keeping.{around, messages}
use Rattle.wind_session.specs.declared.run.RunEnd.TheVariants as ends
use Rattle.live_session.specs.LiveAround.{store}
use Rattle.live_session.specs.Moments.{Moment, RunsFor, moment}
use Rattle.live_session.specs.Seen.{live_by}
use Rattle.live_session.proofs.Flow.{runs_none, runs_on, runs_sent}
use Rattle.live_session.proofs.Journaling.{here_sent, journal_as, journal_both, journal_none}
use Rattle.live_session.proofs.Moving.{runs_later, stopped_for}
use Rattle.live_session.proofs.Spacings.{may_bring, may_range}
use Rattle.live_session.proofs.events.run_series.Goals as goal

pub send_series-sent-requires-clause-range : goal.send_series-sent-requires-clause-range
send_series-sent-requires-clause-range g c = may_range _ _ (sym c.may_come.ensures ∙ c.if-not-may_come.false)

pub send_series-sent-requires-clause-no_bytes : goal.send_series-sent-requires-clause-no_bytes
send_series-sent-requires-clause-no_bytes g c = may_bring _ _ (sym c.may_come.ensures ∙ c.if-not-may_come.false)

-- the slot is empty
pub returns-then-not-may_come-clause-runs : goal.returns-then-not-may_come-clause-runs
returns-then-not-may_come-clause-runs g c = runs_none _ _ _ _ c.requires.going c.requires.sound c.requires.over

pub returns-then-not-may_come-clause-comes : goal.returns-then-not-may_come-clause-comes
returns-then-not-may_come-clause-comes g c = λ shelf setup old here. inl (sym c.may_come.ensures ∙ c.if-not-may_come.true, refl, c.tell_no_device.ensures.printed)

pub returns-then-not-may_come-clause-journal : goal.returns-then-not-may_come-clause-journal
returns-then-not-may_come-clause-journal g c = journal_none _ _ _ _ _

-- an event was sent, and is not in the record's files
pub returns-in-Some-clause-runs : goal.returns-in-Some-clause-runs
returns-in-Some-clause-runs g c = runs_sent _ _ _ _ c.send_series-sent.ensures.stays

pub returns-in-Some-clause-console : goal.returns-in-Some-clause-console
returns-in-Some-clause-console g c = c.send_series-sent.ensures.console

pub returns-in-Some-clause-comes : goal.returns-in-Some-clause-comes
returns-in-Some-clause-comes g c = λ shelf setup old here.
    let live = live_by (λ d. (goal.Device-dyn g (d.vtable, d.value)).kind_of d.value) (λ d. (goal.Device-dyn g (d.vtable, d.value)).words_of d.value) in
    let there = c.send_series-sent.ensures.stays.live shelf setup old _ here.live in
    let now = around g.F.Folder g.O.Sink c.args.folder.now c.args.out.now in
    let ran : Moment = moment (live c.send_series-sent.new.live) now (messages g.E.Sink c.args.err.now) (store g.D.RecordFolder c.send_series-sent.new.records) ends.Limit (Some c.in-Some.failure) in
    inr (record {
      sent = c.send_series-sent.result.count;
      refusal = c.send_series-sent.result.refusal;
      failure = c.send_series-sent.result.unsaved;
      mid = live c.send_series-sent.new.live;
      ran = ran;
      may = sym c.may_come.ensures ∙ c.if-not-may_come.false;
      are_sent = c.send_series-sent.ensures.sent;
      live = there;
      halted = λ some. (sym c.in-Some.is, refl);
      runs = stopped_for shelf setup old _ _ _ _ _ _ c.in-Some.failure (λ e. (c.send_series-sent.ensures.journal now).failed (c.in-Some.is ∙ ap Some e)) there;
      same = refl;
      told = c.tell_sent.ensures.printed;
    })

pub returns-in-Some-clause-journal : goal.returns-in-Some-clause-journal
returns-in-Some-clause-journal g c = journal_as _ _ _ _ _ _ _ _ _ _ c.in-Some.is (c.send_series-sent.ensures.journal _)

-- the events were sent, and the board ran
pub returns-clause-runs : goal.returns-clause-runs
returns-clause-runs g c =
    runs_on c.args.end _ _ _ _ _ _ _ _ _ c.requires.going (runs_none _ _ _ _ c.requires.going c.requires.sound c.requires.over) c.send_series-sent.ensures.stays c.run-went.ensures.runs

pub returns-clause-console : goal.returns-clause-console
returns-clause-console g c = ap (λ (o : Output). o.bytes) c.run-went.ensures.record_is.console ∙ c.send_series-sent.ensures.console

pub returns-clause-comes : goal.returns-clause-comes
returns-clause-comes g c = λ shelf setup old here.
    let live = live_by (λ d. (goal.Device-dyn g (d.vtable, d.value)).kind_of d.value) (λ d. (goal.Device-dyn g (d.vtable, d.value)).words_of d.value) in
    let there = c.send_series-sent.ensures.stays.live shelf setup old _ here.live in
    let now = around g.F.Folder g.O.Sink c.args.folder.now c.args.out.now in
    let files = store g.D.RecordFolder c.args.records.now in
    let noted = store g.D.RecordFolder c.send_series-sent.new.records in
    let ran : Moment =
    moment (live c.run-went.new.live) (around g.F.Folder g.O.Sink c.run-went.new.folder c.run-went.new.out) (messages g.E.Sink c.run-went.new.err)
    (store g.D.RecordFolder c.run-went.new.records) c.run-went.result.end c.run-went.result.unsaved in
    inr (record {
      sent = c.send_series-sent.result.count;
      refusal = c.send_series-sent.result.refusal;
      failure = c.send_series-sent.result.unsaved;
      mid = live c.send_series-sent.new.live;
      ran = ran;
      may = sym c.may_come.ensures ∙ c.if-not-may_come.false;
      are_sent = c.send_series-sent.ensures.sent;
      live = there;
      halted = λ some. absurd (some c.in_default.is);
      runs =
          subst (λ (n : ℕ). RunsFor n shelf setup old (live c.send_series-sent.new.live) now files ran) c.steps_for-most.ensures
          (runs_later c.steps_for-most.result shelf setup old (live c.send_series-sent.new.live) now files noted ran (c.send_series-sent.ensures.journal now).faults c.run-went.ensures.journal.faults
          (c.run-went.ensures.made shelf setup old (record { shelf_is = here.shelf_is; live = there })));
      same = refl;
      told = c.tell_sent-2.ensures.printed;
    })

pub returns-clause-journal : goal.returns-clause-journal
returns-clause-journal g c =
    journal_both _ _ ends.Limit _ _ _ _ _ _ _ _ _ _ (here_sent _ _ _ _ c.send_series-sent.ensures.stays)
    (journal_as _ _ _ _ _ _ _ _ _ _ c.in_default.is (c.send_series-sent.ensures.journal _))
    c.run-went.ensures.journal
