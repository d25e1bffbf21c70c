-- A live session as plain data.
use Rattle.std.specs.Prelude.{◌≡◌, ℕ, ◌+◌, ◌≤◌, List}
use Rattle.std.specs.declared.dyn_box.DynBox.{DynBox}
use Rattle.std.specs.declared.alloc.Global.{Global}
use Rattle.wind_base.specs.Limits.{most_steps}
use Rattle.wind_base.specs.OutBuf.{Output}
use Rattle.wind_outside.specs.Counts.{Rose}
use Rattle.wind_outside.specs.declared.device.Device.{Ghosts}
use Rattle.wind_outside.specs.declared.device.DeviceKind.{DeviceKind}
use Rattle.wind_session.specs.BoardPlayerSeen.{board_by, seen}
use Rattle.wind_machine.specs.State.{State}
use Rattle.wind_machine.specs.Machine.{IsOver}
use Rattle.wind_machine.specs.Extending.{Setup, IsRoom}
use Rattle.wind_session.specs.Live.{IsLive}
use Rattle.wind_session.specs.Modules.{Shelf}
use Rattle.wind_session.specs.Outside.{Outside}
use Rattle.wind_session.specs.declared.run.RunEnd.{RunEnd}
use Rattle.wind_session.specs.declared.run.RunEnd.TheVariants as ends
use Rattle.wind_session.specs.Keeping.{Around, Keeps}
use Rattle.live_session.specs.Ending.{IsAfterRun}
use Rattle.live_session.specs.Record.{IsRecord, IsWithinFile}
use Rattle.live_session.specs.declared.live.Live.{Live}

-- the two texts of the record with the room that they have, the number of lines of the tick file, the time in its last
-- line, and the board
pub record LiveState : Type 0 where
  pub console : Output
  pub ticks : Output
  pub lines : ℕ
  pub last : ℕ
  pub board : State

abbrev pub live_by : {I : Type 0} {X : I → Type 0} → (DynBox I Global X → DeviceKind) → (DynBox I Global X → List ℕ) → Live I X → LiveState
live_by kind_of words_of l = record {
  console = l.record.console;
  ticks = l.record.ticks;
  lines = l.record.lines;
  last = l.record.last;
  board = board_by kind_of words_of l.board;
}

abbrev pub live_seen : {I : Type 0} {X : I → Type 0} → ((i : I) → Ghosts (X i)) → Live I X → LiveState
live_seen devices l = record {
  console = l.record.console;
  ticks = l.record.ticks;
  lines = l.record.lines;
  last = l.record.last;
  board = seen devices l.board;
}

-- what every call keeps: the tick file is that of some events, and both texts have room up to the longest file; one more
-- event may be sent to the board; and the board has not made more steps than a run may
pub record IsSound (l : LiveState) : Type 0 where
  pub kept : IsRecord l.ticks l.lines l.last
  pub console : IsWithinFile l.console
  pub room : IsRoom l.last (l.lines + 1) l.board
  pub few : l.board.steps ≤ most_steps

-- the board is that of the record so far, and what its steps wrote was put
abbrev pub IsLiveAt : Shelf → Setup → LiveState → Outside → Outside → Type 0
IsLiveAt shelf setup l old now = IsLive shelf setup l.console.bytes l.ticks.bytes l.board old now

-- the board has run, which ended like this
abbrev pub IsRun : RunEnd → Shelf → Setup → LiveState → Outside → Outside → Type 0
IsRun end shelf setup l old now = IsAfterRun end shelf setup l.console.bytes l.ticks.bytes l.board old now

-- a session that is live goes on to another state, after a run that ended like this
pub record GoesOn (end : RunEnd) (shelf : Shelf) (l : LiveState) (now : Outside) (m : LiveState) (later : Outside) : Type 0 where
  pub goes : (setup : Setup) (old : Outside) → IsLiveAt shelf setup l old now → IsRun end shelf setup m old later

-- a session begins: its record is this console file with this tick file, and no step was made
pub record BeginsWith (setup : Setup) (console ticks : List ℕ) (l : LiveState) : Type 0 where
  pub sound : IsSound l
  pub console_is : l.console.bytes ≡ console
  pub ticks_is : l.ticks.bytes ≡ ticks
  pub no_steps : l.board.steps ≡ 0
  pub live : (shelf : Shelf) (old : Outside) → IsLiveAt shelf setup l old old

-- what is sent keeps a session sound, and live if it is
pub record StaysLive (l m : LiveState) : Type 0 where
  pub sound : IsSound m
  pub live : (shelf : Shelf) (setup : Setup) (old now : Outside) → IsLiveAt shelf setup l old now → IsLiveAt shelf setup m old now

-- the board has run, which ended like this, with the modules of the folder with this name
pub record Runs (end : RunEnd) (modules : List ℕ) (l : LiveState) (before : Around) (m : LiveState) (after : Around) : Type 0 where
  pub sound : IsSound m
  pub goes : GoesOn end (record { files = before.files; name = modules }) l before.logged m after.logged
  pub quiet : end ≡ ends.Quiet → IsOver m.board
  pub read_fault : end ≡ ends.ReadFault → Rose before.folder_faults after.folder_faults
  pub write_fault : end ≡ ends.WriteFault → Rose before.sink_faults after.sink_faults
  pub keeps : Keeps before after
