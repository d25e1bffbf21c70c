-- The promises hold of the run that a live session leaves.
use Rattle.std.proofs.Common.{ℕ, List, Option, None, Some, inl, inr}
use Rattle.wind_outside.specs.Devices.{DeviceState}
use Rattle.tick_file.specs.Schedule.{timetable_of}
use Rattle.wind_machine.specs.State.{State}
use Rattle.wind_machine.specs.Extending.{Setup, booted}
use Rattle.wind_session.specs.Modules.{Shelf}
use Rattle.wind_session.specs.Outside.{Outside}
use Rattle.wind_session.specs.Runs.{Ran}
use Rattle.wind_session.specs.declared.run.RunEnd.{RunEnd}
use Rattle.wind_session.specs.declared.run.RunEnd.TheVariants as ends
use Rattle.session_promises.specs.Promises.{PromiseLaw}
use Rattle.session_promises.specs.Sessions.{KeepsPromises}
use Rattle.live_session.specs.Command.{CommandState}
use Rattle.live_session.specs.Ending.{IsAfterRun}
use Rattle.live_session.specs.LiveAround.{LiveAround}
use Rattle.live_session.specs.Promised.{IsPromised}
use Rattle.live_session.specs.Session.{Leaves, setup_of, shelf_of}
use Rattle.live_session.specs.declared.status.Status.{Status}

module _ (law : PromiseLaw) (shelf : Shelf) (setup : Setup) (console ticks : List ℕ) (board : State) (old now : Outside) where
  by_run : (end : RunEnd) (n : ℕ) → Ran end shelf (booted setup console (timetable_of ticks)) n board old now
      → KeepsPromises shelf console (booted setup console (timetable_of ticks)) n old.requests now.requests
  by_run end n ran = record {
    said = ran.said;
    k = ran.k;
    end = end;
    board = board;
    made = ran.made;
    at_each = λ j h. law ran.said console ticks setup.slots setup.profile setup.board j;
  }

  abbrev Kept : Type 0
  Kept = (n : ℕ) × KeepsPromises shelf console (booted setup console (timetable_of ticks)) n old.requests now.requests

  pub by_end : (end : RunEnd) → IsAfterRun end shelf setup console ticks board old now → Kept
  by_end ends.Quiet live = (board.steps, by_run ends.Limit board.steps live.ran)
  by_end ends.Limit live = (board.steps, by_run ends.Limit board.steps live.ran)
  by_end ends.ReadFault ended = (ended.0, by_run ends.ReadFault ended.0 ended.1)
  by_end ends.WriteFault ended = (ended.0, by_run ends.WriteFault ended.0 ended.1)
  by_end ends.NoMemory ended = (ended.0, by_run ends.NoMemory ended.0 ended.1)

pub live_promised : PromiseLaw → (s : Status) (command : Option CommandState) (devices : List (Option DeviceState)) (before after : LiveAround) → Leaves s command devices before after → IsPromised command devices before after
live_promised law s None devices before after leaves = leaves.1.outside
live_promised law s (Some c) devices before after (inl refused) = inl refused.1.outside
live_promised law s (Some c) devices before after (inr played) =
    let kept = by_end law (shelf_of before.session.files c) (setup_of c devices) played.live.console.bytes played.live.ticks.bytes played.live.board before.session.logged after.session.logged played.end played.run in
    inr (record { console = played.live.console.bytes; ticks = played.live.ticks.bytes; limit = kept.0; run = kept.1 })
