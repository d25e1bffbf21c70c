-- What a session leaves after its board has run.
use Rattle.std.specs.Prelude.{ℕ, Bool, true, false, List}
use Rattle.wind_machine.specs.State.{State}
use Rattle.wind_machine.specs.Extending.{Setup, booted}
use Rattle.tick_file.specs.Schedule.{timetable_of}
use Rattle.wind_session.specs.Live.{IsLive}
use Rattle.wind_session.specs.Modules.{Shelf}
use Rattle.wind_session.specs.Outside.{Outside}
use Rattle.wind_session.specs.Runs.{Ran}
use Rattle.wind_session.specs.declared.run.RunEnd.{RunEnd}
use Rattle.wind_session.specs.declared.run.RunEnd.TheVariants as ends

-- a run that ended like this can go on
abbrev pub IsGoing : RunEnd → Type 0
IsGoing ends.Quiet = Unit {0}
IsGoing ends.Limit = Unit {0}
IsGoing end = ⊥

-- it ended because no step was left
abbrev pub is_quiet : RunEnd → Bool
is_quiet ends.Quiet = true
is_quiet end = false

-- the run of the record ended like this, at some limit
abbrev pub HasEnded : RunEnd → Shelf → Setup → List ℕ → List ℕ → State → Outside → Outside → Type 0
HasEnded end shelf setup console ticks board old now = (n : ℕ) × Ran end shelf (booted setup console (timetable_of ticks)) n board old now

-- after a run that is over or at its limit the session is live; otherwise the run of its record has ended
abbrev pub IsAfterRun : RunEnd → Shelf → Setup → List ℕ → List ℕ → State → Outside → Outside → Type 0
IsAfterRun ends.Quiet = IsLive
IsAfterRun ends.Limit = IsLive
IsAfterRun ends.ReadFault = HasEnded ends.ReadFault
IsAfterRun ends.WriteFault = HasEnded ends.WriteFault
IsAfterRun ends.NoMemory = HasEnded ends.NoMemory
