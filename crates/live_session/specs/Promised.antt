-- What is promised of a live session: its run keeps the promises at each instant.
use Rattle.std.specs.Prelude.{◌≡◌, ◌⊎◌, ℕ, List, Option, Some, None}
use Rattle.wind_outside.specs.Devices.{DeviceState}
use Rattle.tick_file.specs.Schedule.{timetable_of}
use Rattle.wind_machine.specs.Extending.{booted}
use Rattle.session_promises.specs.Sessions.{KeepsPromises}
use Rattle.live_session.specs.Command.{CommandState}
use Rattle.live_session.specs.LiveAround.{LiveAround}
use Rattle.live_session.specs.Session.{setup_of, shelf_of}

-- the run of a console file and a tick file keeps the promises
pub record LivesAsPromised (c : CommandState) (devices : List (Option DeviceState)) (before after : LiveAround) : Type 0 where
  pub console : List ℕ
  pub ticks : List ℕ
  pub limit : ℕ
  pub run : KeepsPromises (shelf_of before.session.files c) console (booted (setup_of c devices) console (timetable_of ticks)) limit
      before.session.logged.requests after.session.logged.requests

-- nothing was played, fetched or shown; or the run of the session keeps the promises
abbrev pub IsPromised : Option CommandState → List (Option DeviceState) → LiveAround → LiveAround → Type 0
IsPromised None devices before after = after.session.logged ≡ before.session.logged
IsPromised (Some c) devices before after = (after.session.logged ≡ before.session.logged) ⊎ LivesAsPromised c devices before after
