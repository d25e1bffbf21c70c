use Rattle.std.proofs.Common.{refl, inl, inr, sym, subst}
use Rattle.wind_outside.specs.Counts.{Rose}
use Rattle.live_session.specs.LiveAround.{live_around}
use Rattle.live_session.specs.Session.{IsRefusal}
use Rattle.live_session.specs.Words.{command_state}
use Rattle.live_session.specs.declared.status.Status.{Status}
use Rattle.live_session.proofs.Earlier.{leaves_earlier}
use Rattle.live_session.proofs.OtherFiles.{for_kept}
use Rattle.live_session.proofs.Outcomes.{unopened_status}
use Rattle.live_session.proofs.playing.session.Goals as goal

-- ---- a session was played after its record was read
pub returns-in-Ok-clause-leaves : goal.returns-in-Ok-clause-leaves
returns-in-Ok-clause-leaves g c =
    leaves_earlier c.play_taken.result (command_state c.args.target.command.now) _
    (live_around g.I.Input g.F.Folder g.O.Sink g.D.RecordFolder c.args.input.now c.args.folder.now c.args.out.now c.taken_of.new.records)
    (live_around g.I.Input g.F.Folder g.O.Sink g.D.RecordFolder c.play_taken.new.input c.play_taken.new.folder c.play_taken.new.out c.play_taken.new.records)
    (g.D.RecordFolder.faults c.args.records.now) c.taken_of.ensures.never_falls c.play_taken.ensures.record_faults
    _ c.taken_of.ensures.files c.play_taken.ensures.leaves

-- ---- there was no record to go on from
pub returns-in-Err-clause-leaves : goal.returns-in-Err-clause-leaves
returns-in-Err-clause-leaves g c =
    let rose : Type 0 = Rose (g.D.RecordFolder.faults c.args.records.now) (g.D.RecordFolder.faults c.taken_of.new.records) in
    inl (
      subst (λ (s : Status). IsRefusal s (command_state c.args.target.command.now) (g.D.RecordFolder.files c.args.records.now) rose) (sym c.status_after.ensures.err) c.in-Err.ensures.refused,
      record { outside = refl; input = refl },
      record { writes = for_kept _ _ _ c.taken_of.ensures.files; permitted = inr c.taken_of.ensures.files },
    )

pub returns-in-Err-clause-known : goal.returns-in-Err-clause-known
returns-in-Err-clause-known g c = rw c.status_after.ensures.err (unopened_status c.in-Err.failure).0

pub returns-in-Err-clause-read_fault : goal.returns-in-Err-clause-read_fault
returns-in-Err-clause-read_fault g c = rw c.status_after.ensures.err (λ e. absurd ((unopened_status c.in-Err.failure).1 e))

pub returns-in-Err-clause-fault : goal.returns-in-Err-clause-fault
returns-in-Err-clause-fault g c = rw c.status_after.ensures.err (λ e. absurd ((unopened_status c.in-Err.failure).2 e))
