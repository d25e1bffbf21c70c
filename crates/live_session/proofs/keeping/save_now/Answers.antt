use Rattle.std.proofs.Common.{◌≡◌, ◌≢◌, ◌∙◌, ℕ, List, [], true, inl, subst, sym}
use Rattle.std.specs.Prelude.{is_ok}
use Rattle.wind_session.specs.Keeping.{Messages, messages}
use Rattle.live_session.specs.Ending.{is_quiet}
use Rattle.live_session.specs.Moments.{IsTold}
use Rattle.live_session.specs.Saving.{IsSaved, replay_limit}
use Rattle.live_session.specs.Seen.{live_by}
use Rattle.live_session.specs.Telling.{written_text}
use Rattle.live_session.specs.Words.{command_state}
use Rattle.live_session.proofs.OtherFiles.{named_by, writes_record}
use Rattle.live_session.proofs.Outcomes.{ok_holds}
use Rattle.live_session.proofs.SavedFiles.{journal_saved}
use Rattle.live_session.proofs.keeping.save_now.Goals as goal

-- the record was written, which was told
pub returns-then-is_ok-clause-saves : goal.returns-then-is_ok-clause-saves
returns-then-is_ok-clause-saves g c =
    let live = live_by (λ d. (goal.Device-dyn g (d.vtable, d.value)).kind_of d.value) (λ d. (goal.Device-dyn g (d.vtable, d.value)).words_of d.value) c.args.live.now in
    let folder = c.args.target.command.now.record.now in
    let named : folder ≢ [] = named_by folder (sym c.is_empty.ensures ∙ c.if-is_empty.false) in
    let ok : is_ok c.write_record.result ≡ true = sym c.is_ok.ensures.value ∙ c.if-is_ok.true in
    let quiet : messages g.E.Sink c.write_record.new.err ≡ messages g.E.Sink c.args.err.now =
    ok_holds c.write_record.result (messages g.E.Sink c.write_record.new.err ≡ messages g.E.Sink c.args.err.now) ok c.write_record.ensures.quiet in
    let saved =
    ok_holds c.write_record.result
    (IsSaved (command_state c.args.target.command.now) live.console.bytes live.ticks.bytes (replay_limit live.board.steps (is_quiet c.args.end))
    (g.D.RecordFolder.files c.args.records.now) (g.D.RecordFolder.files c.write_record.new.records))
    ok c.write_record.ensures.ok in
    let told =
    subst (λ (m : Messages). IsTold (written_text folder) m (messages g.E.Sink c.tell_of.new.err)) quiet
    (subst (λ (name : List ℕ). IsTold (written_text name) (messages g.E.Sink c.write_record.new.err) (messages g.E.Sink c.tell_of.new.err)) c.as_bytes-name.ensures.value c.tell_of.ensures.printed) in
    record { unnamed = λ e. absurd (named e); named = λ some. inl (saved, told) }

pub returns-then-is_ok-clause-journal : goal.returns-then-is_ok-clause-journal
returns-then-is_ok-clause-journal g c = λ now.
    let folder = c.args.target.command.now.record.now in
    let named : folder ≢ [] = named_by folder (sym c.is_empty.ensures ∙ c.if-is_empty.false) in
    journal_saved c.writing_law.ensures.written _ _ _ _ _ _ (is_quiet c.args.end) c.requires.sound (writes_record _ _ _ named c.write_record.ensures.others) c.write_record.ensures.never_falls c.write_record.ensures.parts

-- or wasn't
pub returns-else-is_ok-clause-journal : goal.returns-else-is_ok-clause-journal
returns-else-is_ok-clause-journal g c = λ now.
    let folder = c.args.target.command.now.record.now in
    let named : folder ≢ [] = named_by folder (sym c.is_empty.ensures ∙ c.if-is_empty.false) in
    journal_saved c.writing_law.ensures.written _ _ _ _ _ _ (is_quiet c.args.end) c.requires.sound (writes_record _ _ _ named c.write_record.ensures.others) c.write_record.ensures.never_falls c.write_record.ensures.parts
