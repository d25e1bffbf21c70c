use Rattle.std.proofs.Common.{refl, inl, ◌≡◌, ◌≢◌, ◌∙◌, [], Option, Err, ap, arith, eqb-true, false, inr, length, rules, subst, sym}
use Rattle.std.proofs.lemmas.List.{nil_from_length}
use Rattle.wind_outside.specs.Counts.{Rose}
use Rattle.wind_outside.specs.Files.{Files}
use Rattle.wind_session.proofs.AppendingLemmas.{rose_earlier}
use Rattle.wind_session.specs.Keeping.{messages}
use Rattle.live_session.specs.LiveAround.{live_around, store}
use Rattle.live_session.specs.Saving.{IsOpened, WritesFor}
use Rattle.live_session.specs.Session.{IsRefusal, first_steps}
use Rattle.live_session.specs.Words.{command_state}
use Rattle.live_session.specs.declared.saving.Unsaved.{Unsaved}
use Rattle.live_session.specs.declared.saving.Unsaved.TheVariants as unsaved
use Rattle.live_session.specs.declared.status.Status.{Status}
use Rattle.live_session.specs.declared.status.Status.TheVariants as status
use Rattle.live_session.proofs.Closings.{is_failure, no_failure, some_failure}
use Rattle.live_session.proofs.OtherFiles.{for_both, for_kept, named_by, writes_both, writes_for, writes_record}
use Rattle.live_session.proofs.Outcomes.{IsAfter, after_failed, after_recorded, after_status, after_typed, ended_going, ended_same, never_usage, opened_record, put_same, read_same, unopened_refusal, unopened_status}
use Rattle.live_session.proofs.SavedFiles.{opening_current, safe_end}
use Rattle.live_session.proofs.Whole.{plays, typed_from}
use Rattle.live_session.proofs.playing.play_begun.Goals as goal

-- ---- no record is asked for
pub returns-then-is_empty-clause-leaves : goal.returns-then-is_empty-clause-leaves
returns-then-is_empty-clause-leaves g c = λ devices kept limit_is takes begins.
    let closing = c.converse-closing in
    let folder = c.args.target.command.now.record.now in
    let none : folder ≡ [] = nil_from_length folder (eqb-true (length folder) 0 (sym c.is_empty.ensures ∙ c.if-is_empty.true)) in
    inr (plays c.writing_law.ensures.written closing.result.status (command_state c.args.target.command.now) kept closing.result.end _ _
    (live_around g.I.Input g.F.Folder g.O.Sink g.D.RecordFolder c.args.input.now c.args.folder.now c.args.out.now c.args.records.now)
    (live_around g.I.Input g.F.Folder g.O.Sink g.D.RecordFolder closing.new.input closing.new.folder closing.new.out closing.new.records)
    (messages g.E.Sink closing.new.err) closing.result.unsaved (store g.D.RecordFolder c.open_record.new.records) (store g.D.RecordFolder closing.new.records)
    (record {
      runs = closing.ensures.runs;
      status_is = closing.ensures.status_is;
      typed = typed_from (command_state c.args.target.command.now) kept _ _ _ _ _ _ _ _
          (live_around g.I.Input g.F.Folder g.O.Sink g.D.RecordFolder c.args.input.now c.args.folder.now c.args.out.now c.args.records.now)
          (live_around g.I.Input g.F.Folder g.O.Sink g.D.RecordFolder closing.new.input closing.new.folder closing.new.out closing.new.records)
          (messages g.E.Sink closing.new.err) closing.result.end closing.result.unsaved (store g.D.RecordFolder c.open_record.new.records) (store g.D.RecordFolder closing.new.records)
          begins.console_is (c.first_steps-first.ensures ∙ ap (first_steps (command_state c.args.target.command.now)) (sym limit_is)) closing.ensures.typed;
      unopened = λ e. (c.open_record.ensures.unnamed e).1 ∙ c.may_record.ensures.files;
      opens = λ e. absurd (e none);
      writes =
          for_both _ _ _ _
          (subst (λ (f : Option Files). WritesFor (command_state c.args.target.command.now) f (g.D.RecordFolder.files c.open_record.new.records)) c.may_record.ensures.files c.open_record.ensures.writes)
          (writes_for _ _ _ closing.ensures.journal.writes);
      since = closing.ensures.journal.writes;
      saved = λ e named. absurd (named none);
      unrecorded = λ e.
          let named = (closing.ensures.journal.stuck (some_failure _ _ (closing.ensures.unrecorded e))).0 in
          absurd (named none);
      safe = λ named. absurd (named none);
    })
    _ (c.may_record.ensures.permitted (search rules)) takes begins)

pub returns-then-is_empty-clause-known : goal.returns-then-is_empty-clause-known
returns-then-is_empty-clause-known g c = never_usage c.converse-closing.result.end c.converse-closing.result.status c.converse-closing.ensures.status_is

-- ---- a file of the record was not written in the middle of the session
pub returns-then-is_some-clause-leaves : goal.returns-then-is_some-clause-leaves
returns-then-is_some-clause-leaves g c = λ devices kept limit_is takes begins.
    let closing = c.converse-closing in
    let command = command_state c.args.target.command.now in
    let folder = c.args.target.command.now.record.now in
    let named : folder ≢ [] = named_by folder (sym c.is_empty.ensures ∙ c.if-is_empty.false) in
    let opened = opening_current command _ c.args.limit _ _ begins.no_steps c.requires.few (c.in_default.ensures.ok named).saved in
    let stuck = is_failure closing.result.unsaved (sym c.is_some.ensures ∙ c.if-is_some.true) in
    inr (plays c.writing_law.ensures.written closing.result.status command kept closing.result.end _ _
    (live_around g.I.Input g.F.Folder g.O.Sink g.D.RecordFolder c.args.input.now c.args.folder.now c.args.out.now c.args.records.now)
    (live_around g.I.Input g.F.Folder g.O.Sink g.D.RecordFolder closing.new.input closing.new.folder closing.new.out closing.new.records)
    (messages g.E.Sink closing.new.err) closing.result.unsaved (store g.D.RecordFolder c.open_record.new.records) (store g.D.RecordFolder closing.new.records)
    (record {
      runs = closing.ensures.runs;
      status_is = closing.ensures.status_is;
      typed = typed_from (command_state c.args.target.command.now) kept _ _ _ _ _ _ _ _
          (live_around g.I.Input g.F.Folder g.O.Sink g.D.RecordFolder c.args.input.now c.args.folder.now c.args.out.now c.args.records.now)
          (live_around g.I.Input g.F.Folder g.O.Sink g.D.RecordFolder closing.new.input closing.new.folder closing.new.out closing.new.records)
          (messages g.E.Sink closing.new.err) closing.result.end closing.result.unsaved (store g.D.RecordFolder c.open_record.new.records) (store g.D.RecordFolder closing.new.records)
          begins.console_is (c.first_steps-first.ensures ∙ ap (first_steps (command_state c.args.target.command.now)) (sym limit_is)) closing.ensures.typed;
      unopened = λ e. absurd (named e);
      opens = λ e.
          let saved = c.in_default.ensures.ok e in
          subst (λ (f : Option Files). IsOpened command kept.console kept.ticks kept.limit f (g.D.RecordFolder.files c.open_record.new.records)) c.may_record.ensures.files
          (opened_record _ kept _ _ _ _ _ begins.console_is begins.ticks_is limit_is saved);
      writes =
          for_both _ _ _ _
          (subst (λ (f : Option Files). WritesFor command f (g.D.RecordFolder.files c.open_record.new.records)) c.may_record.ensures.files c.open_record.ensures.writes)
          (writes_for _ _ _ closing.ensures.journal.writes);
      since = closing.ensures.journal.writes;
      saved = λ e some. absurd (closing.ensures.unended stuck e);
      unrecorded = λ e. (
        named,
        rose_earlier _ _ _ (omega (arith, c.may_record.ensures.never_falls, c.open_record.ensures.never_falls)) closing.ensures.journal.faults
            (closing.ensures.journal.failed (closing.ensures.unrecorded e)),
      );
      safe = λ some. (opened, closing.ensures.journal.always named opened);
    })
    _ (c.may_record.ensures.permitted (search rules)) takes begins)

pub returns-then-is_some-clause-known : goal.returns-then-is_some-clause-known
returns-then-is_some-clause-known g c = never_usage c.converse-closing.result.end c.converse-closing.result.status c.converse-closing.ensures.status_is

-- ---- the record was written at the end, or not
pub returns-clause-leaves : goal.returns-clause-leaves
returns-clause-leaves g c = λ devices kept limit_is takes begins.
    let closing = c.converse-closing in
    let writing = c.write_record-written in
    let command = command_state c.args.target.command.now in
    let folder = c.args.target.command.now.record.now in
    let named : folder ≢ [] = named_by folder (sym c.is_empty.ensures ∙ c.if-is_empty.false) in
    let opened = opening_current command _ c.args.limit _ _ begins.no_steps c.requires.few (c.in_default.ensures.ok named).saved in
    let none = no_failure closing.result.unsaved (sym c.is_some.ensures ∙ c.if-is_some.false) in
    let known : closing.result.status ≢ status.Unrecorded = λ e. some_failure _ _ (closing.ensures.unrecorded e) none in
    let after : IsAfter writing.result closing.result.status c.status_after-2.result = record { ok = c.status_after-2.ensures.ok; err = c.status_after-2.ensures.err } in
    inr (plays c.writing_law.ensures.written c.status_after-2.result command kept closing.result.end _ _
    (live_around g.I.Input g.F.Folder g.O.Sink g.D.RecordFolder c.args.input.now c.args.folder.now c.args.out.now c.args.records.now)
    (live_around g.I.Input g.F.Folder g.O.Sink g.D.RecordFolder closing.new.input closing.new.folder closing.new.out writing.new.records)
    (messages g.E.Sink closing.new.err) closing.result.unsaved (store g.D.RecordFolder c.open_record.new.records) (store g.D.RecordFolder closing.new.records)
    (record {
      runs = closing.ensures.runs;
      status_is = after_status writing.result closing.result.status c.status_after-2.result closing.result.end after closing.ensures.status_is;
      typed = after_typed writing.result closing.result.status c.status_after-2.result _ _ _ _ _ after
          (typed_from command kept _ _ _ _ _ _ _ _
          (live_around g.I.Input g.F.Folder g.O.Sink g.D.RecordFolder c.args.input.now c.args.folder.now c.args.out.now c.args.records.now)
          (live_around g.I.Input g.F.Folder g.O.Sink g.D.RecordFolder closing.new.input closing.new.folder closing.new.out closing.new.records)
          (messages g.E.Sink closing.new.err) closing.result.end closing.result.unsaved (store g.D.RecordFolder c.open_record.new.records) (store g.D.RecordFolder closing.new.records)
          begins.console_is (c.first_steps-first.ensures ∙ ap (first_steps command) (sym limit_is)) closing.ensures.typed);
      unopened = λ e. absurd (named e);
      opens = λ e.
          let saved = c.in_default.ensures.ok e in
          subst (λ (f : Option Files). IsOpened command kept.console kept.ticks kept.limit f (g.D.RecordFolder.files c.open_record.new.records)) c.may_record.ensures.files
          (opened_record _ kept _ _ _ _ _ begins.console_is begins.ticks_is limit_is saved);
      writes =
          for_both _ _ _ _
          (subst (λ (f : Option Files). WritesFor command f (g.D.RecordFolder.files c.open_record.new.records)) c.may_record.ensures.files c.open_record.ensures.writes)
          (writes_for _ _ _ (writes_both _ _ _ _ closing.ensures.journal.writes (writes_record _ _ _ named writing.ensures.others)));
      since = writes_both _ _ _ _ closing.ensures.journal.writes (writes_record _ _ _ named writing.ensures.others);
      saved = λ e some. (
        ended_going closing.result.end closing.result.status closing.ensures.status_is
            (ended_same writing.result closing.result.status c.status_after-2.result after e),
        after_recorded writing.result closing.result.status c.status_after-2.result _ after writing.ensures.ok e,
      );
      unrecorded = λ e. (
        named,
        rose_earlier _ _ _ (omega (arith, c.may_record.ensures.never_falls, c.open_record.ensures.never_falls, closing.ensures.journal.faults)) writing.ensures.never_falls
            (writing.ensures.failed (after_failed writing.result closing.result.status c.status_after-2.result after known e)),
      );
      safe = λ some. (
        opened,
        safe_end c.writing_law.ensures.written command closing.result.unsaved closing.result.end _ _ _ _ _ _ _ named opened closing.ensures.runs closing.ensures.journal none writing.ensures.parts,
      );
    })
    _ (c.may_record.ensures.permitted (search rules)) takes begins)

pub returns-clause-known : goal.returns-clause-known
returns-clause-known g c =
    let closing = c.converse-closing in
    let writing = c.write_record-written in
    let after : IsAfter writing.result closing.result.status c.status_after-2.result = record { ok = c.status_after-2.ensures.ok; err = c.status_after-2.ensures.err } in
    never_usage closing.result.end c.status_after-2.result
    (after_status writing.result closing.result.status c.status_after-2.result closing.result.end after closing.ensures.status_is)

pub returns-clause-read_fault : goal.returns-clause-read_fault
returns-clause-read_fault g c = λ e.
    let after : IsAfter c.write_record-written.result c.converse-closing.result.status c.status_after-2.result = record { ok = c.status_after-2.ensures.ok; err = c.status_after-2.ensures.err } in
    c.converse-closing.ensures.read_fault (read_same c.write_record-written.result c.converse-closing.result.status c.status_after-2.result after e)

pub returns-clause-fault : goal.returns-clause-fault
returns-clause-fault g c = λ e.
    let after : IsAfter c.write_record-written.result c.converse-closing.result.status c.status_after-2.result = record { ok = c.status_after-2.ensures.ok; err = c.status_after-2.ensures.err } in
    c.converse-closing.ensures.fault (put_same c.write_record-written.result c.converse-closing.result.status c.status_after-2.result after e)

pub returns-clause-keeps : goal.returns-clause-keeps
returns-clause-keeps g c = c.converse-closing.ensures.runs.keeps

-- ---- the record could not be opened
pub returns-in-Err-clause-leaves : goal.returns-in-Err-clause-leaves
returns-in-Err-clause-leaves g c = λ devices kept limit_is takes begins.
    let command = command_state c.args.target.command.now in
    let rose : Type 0 = Rose (g.D.RecordFolder.faults c.args.records.now) (g.D.RecordFolder.faults c.open_record.new.records) in
    let named : c.args.target.command.now.record.now ≢ [] = λ e. (c.in-Err.ensures.unnamed e).0 in
    let failed : c.in-Err.failure ≡ unsaved.Failed → rose = λ e.
    rose_earlier _ _ _ c.may_record.ensures.never_falls c.open_record.ensures.never_falls (c.in-Err.ensures.failed (ap (λ (f : Unsaved). Err f) e)) in
    let refusal = unopened_refusal c.in-Err.failure command (g.D.RecordFolder.files c.args.records.now) rose named failed in
    inl (
      subst (λ (s : Status). IsRefusal s command (g.D.RecordFolder.files c.args.records.now) rose) (sym c.status_after.ensures.err) refusal,
      record { outside = refl; input = refl },
      record {
        writes = subst (λ (f : Option Files). WritesFor command f (g.D.RecordFolder.files c.open_record.new.records)) c.may_record.ensures.files c.open_record.ensures.writes;
        permitted = inl (record { permitted = c.may_record.ensures.permitted (search rules); kept = kept; takes = takes });
      },
    )

pub returns-in-Err-clause-known : goal.returns-in-Err-clause-known
returns-in-Err-clause-known g c = rw c.status_after.ensures.err (unopened_status c.in-Err.failure).0

pub returns-in-Err-clause-read_fault : goal.returns-in-Err-clause-read_fault
returns-in-Err-clause-read_fault g c = rw c.status_after.ensures.err (λ e. absurd ((unopened_status c.in-Err.failure).1 e))

pub returns-in-Err-clause-fault : goal.returns-in-Err-clause-fault
returns-in-Err-clause-fault g c = rw c.status_after.ensures.err (λ e. absurd ((unopened_status c.in-Err.failure).2 e))

-- ---- nothing was played
pub returns-then-not-may_record-clause-leaves : goal.returns-then-not-may_record-clause-leaves
returns-then-not-may_record-clause-leaves g c = λ devices kept limit_is takes begins.
    let no : c.may_record.result ≡ false = search rules in
    inl (c.may_record.ensures.refused no, record { outside = refl; input = refl }, record { writes = for_kept _ _ _ c.may_record.ensures.files; permitted = inr c.may_record.ensures.files })

-- ---- the counts of faults, and the folder of modules
pub returns-then-is_empty-clause-keeps : goal.returns-then-is_empty-clause-keeps
returns-then-is_empty-clause-keeps g c = c.converse-closing.ensures.runs.keeps

pub returns-then-is_empty-clause-input_faults : goal.returns-then-is_empty-clause-input_faults
returns-then-is_empty-clause-input_faults g c = c.converse-closing.ensures.input_faults

pub returns-then-is_empty-clause-read_fault : goal.returns-then-is_empty-clause-read_fault
returns-then-is_empty-clause-read_fault g c = c.converse-closing.ensures.read_fault

pub returns-then-is_empty-clause-fault : goal.returns-then-is_empty-clause-fault
returns-then-is_empty-clause-fault g c = c.converse-closing.ensures.fault

pub returns-then-is_empty-clause-record_faults : goal.returns-then-is_empty-clause-record_faults
returns-then-is_empty-clause-record_faults g c = omega (arith, c.may_record.ensures.never_falls, c.open_record.ensures.never_falls, c.converse-closing.ensures.journal.faults)

pub returns-then-is_some-clause-keeps : goal.returns-then-is_some-clause-keeps
returns-then-is_some-clause-keeps g c = c.converse-closing.ensures.runs.keeps

pub returns-then-is_some-clause-input_faults : goal.returns-then-is_some-clause-input_faults
returns-then-is_some-clause-input_faults g c = c.converse-closing.ensures.input_faults

pub returns-then-is_some-clause-read_fault : goal.returns-then-is_some-clause-read_fault
returns-then-is_some-clause-read_fault g c = c.converse-closing.ensures.read_fault

pub returns-then-is_some-clause-fault : goal.returns-then-is_some-clause-fault
returns-then-is_some-clause-fault g c = c.converse-closing.ensures.fault

pub returns-then-is_some-clause-record_faults : goal.returns-then-is_some-clause-record_faults
returns-then-is_some-clause-record_faults g c = omega (arith, c.may_record.ensures.never_falls, c.open_record.ensures.never_falls, c.converse-closing.ensures.journal.faults)

pub returns-clause-input_faults : goal.returns-clause-input_faults
returns-clause-input_faults g c = c.converse-closing.ensures.input_faults

pub returns-clause-record_faults : goal.returns-clause-record_faults
returns-clause-record_faults g c = omega (arith, c.may_record.ensures.never_falls, c.open_record.ensures.never_falls, c.converse-closing.ensures.journal.faults, c.write_record-written.ensures.never_falls)
