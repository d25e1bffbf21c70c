-- A session after whose beginning a record was read.
use Rattle.std.proofs.Common.{◌≡◌, ℕ, ◌≤◌, List, Option, Some, inl, inr, subst}
use Rattle.wind_outside.specs.Devices.{DeviceState}
use Rattle.wind_outside.specs.Files.{Files}
use Rattle.wind_session.proofs.AppendingLemmas.{rose_earlier}
use Rattle.live_session.specs.Command.{CommandState}
use Rattle.live_session.specs.LiveAround.{LiveAround, RecordFailed}
use Rattle.live_session.specs.Session.{IsRefusal, Leaves, Played}
use Rattle.live_session.specs.declared.status.Status.{Status}
use Rattle.live_session.specs.declared.status.Status.TheVariants as status

-- a refusal for which a call may also have failed before
refusal_as : (s : Status) (c : CommandState) (files : Option Files) (rose more : Type 0) → (rose → more) → IsRefusal s c files rose → IsRefusal s c files more
refusal_as status.NoMemory c files rose more so h = tt
refusal_as status.Unrecorded c files rose more so (named, inl there) = (named, inl there)
refusal_as status.Unrecorded c files rose more so (named, inr (inl foreign)) = (named, inr (inl foreign))
refusal_as status.Unrecorded c files rose more so (named, inr (inr failed)) = (named, inr (inr (so failed)))
refusal_as status.Ended c files rose more so h = h
refusal_as status.ReadFault c files rose more so h = h
refusal_as status.WriteFault c files rose more so h = h
refusal_as status.Usage c files rose more so h = h

module _ (s : Status) (c : CommandState) (devices : List (Option DeviceState)) (before after : LiveAround) (faults : ℕ) (less : faults ≤ before.record_faults) (kept : before.record_faults ≤ after.record_faults) where
  -- fewer calls of the record's folder had failed
  abbrev sooner : LiveAround
  sooner = record before { record_faults = faults }

  failed_since : RecordFailed before after → RecordFailed sooner after
  failed_since rose = rose_earlier faults before.record_faults after.record_faults less kept rose

  played_since : Played s c devices before after → Played s c devices sooner after
  played_since p = record {
    begin = p.begin;
    live = p.live;
    end = p.end;
    told = p.told;
    opened = p.opened;
    closed = p.closed;
    unsaved = p.unsaved;
    planned = p.planned;
    run = p.run;
    status_is = p.status_is;
    kept = p.kept;
    takes = p.takes;
    begins = p.begins;
    unopened = p.unopened;
    opens = p.opens;
    typed = p.typed;
    permitted = p.permitted;
    writes = p.writes;
    since = p.since;
    recorded = p.recorded;
    unrecorded = λ e. ((p.unrecorded e).0, failed_since (p.unrecorded e).1);
    safe = p.safe;
  }

  leaves_since : Leaves s (Some c) devices before after → Leaves s (Some c) devices sooner after
  leaves_since (inl (refusal, untouched, unopened)) = inl (
    refusal_as s c before.records (RecordFailed before after) (RecordFailed sooner after) failed_since refusal,
    record { outside = untouched.outside; input = untouched.input },
    unopened,
  )
  leaves_since (inr played) = inr (played_since played)

  -- and the files were the same
  pub leaves_earlier : (files : Option Files) → before.records ≡ files → Leaves s (Some c) devices before after → Leaves s (Some c) devices (record sooner { records = files }) after
  leaves_earlier files same leaves = subst (λ (f : Option Files). Leaves s (Some c) devices (record sooner { records = f }) after) same (leaves_since leaves)
