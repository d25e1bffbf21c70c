-- A session whose record grows while it is played.
use Rattle.std.specs.Prelude.{◌≡◌, ℕ, ◌+◌, ◌<◌, List, [], ◌∷◌, ◌++◌, length}
use Rattle.tick_file.specs.declared.event.Event.{Event}
use Rattle.tick_file.specs.Schedule.{timetable_of}
use Rattle.tick_file.specs.Writing.{recorded, AreRecordable}
use Rattle.board_player.specs.WindMachineState.{State}
use Rattle.board_player.specs.WindMachineExtending.{Setup, booted, IsFed, bytes_asked, extended, more_of}
use Rattle.wind_session.specs.Modules.{Shelf}
use Rattle.wind_session.specs.Outside.{Outside}
use Rattle.wind_session.specs.Runs.{Ran}
use Rattle.wind_session.specs.declared.run.RunEnd.TheVariants as ends

-- a board has made all its steps in the run of this console file and the text of this tick file, and what they wrote was
-- put
pub record IsLive (shelf : Shelf) (setup : Setup) (console ticks : List ℕ) (board : State) (old now : Outside) : Type 0 where
  pub fed : IsFed console (timetable_of ticks)
  pub ran : Ran ends.Limit shelf (booted setup console (timetable_of ticks)) board.steps board old now

-- one more event in the tick file, later than board time, with the bytes that it asks for: the board that takes them is
-- the board of the longer record
abbrev pub TypedLaw : Type 0
TypedLaw = (shelf : Shelf) (setup : Setup) (console : List ℕ) (xs : List (ℕ × Event)) (time : ℕ) (event : Event) (bytes : List ℕ) (board : State) (old now : Outside)
    → AreRecordable 0 (xs ++ (time, event) ∷ []) → bytes_asked event ≡ length bytes → board.time < time
    → IsLive shelf setup console (recorded xs) board old now
    → IsLive shelf setup (console ++ bytes) (recorded (xs ++ (time, event) ∷ []))
    (extended (more_of bytes (1 + length xs) time event board.schedule.on_demand) board) old now
