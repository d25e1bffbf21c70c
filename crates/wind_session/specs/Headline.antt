-- What playing a session leaves.
use Rattle.std.specs.Prelude.{◌≡◌, ◌≢◌, ◌⊎◌, ℕ, List, Option, Vec, Some, None}
use Rattle.std.specs.declared.dyn_box.DynBox.{DynBox}
use Rattle.std.specs.declared.alloc.Global.{Global}
use Rattle.wind_outside.specs.Devices.{DeviceState}
use Rattle.wind_outside.specs.Files.{Files}
use Rattle.board_player.specs.WindMachineState.{State}
use Rattle.board_player.specs.WindMachineGood.{Good}
use Rattle.board_player.specs.WindMachineInstants.{IsInstant}
use Rattle.board_player.specs.declared.board.Board.{Board}
use Rattle.board_player.specs.WindMachineMachine.{opening}
use Rattle.board_player.specs.WindMachineRun.{Answers}
use Rattle.wind_session.specs.Modules.{Shelf}
use Rattle.wind_session.specs.Fetches.{EndsWithInputs}
use Rattle.wind_session.specs.Keeping.{Around, FolderFailed, SinkFailed}
use Rattle.generated_session.specs.Puts.{ArePut, AreCutOff, SinkLog}
use Rattle.wind_session.specs.Outside.{Outside, sink_of, with_inputs}
use Rattle.wind_session.specs.Runs.{Made, Ran}
use Rattle.wind_session.specs.Generated.{summary}
use Rattle.wind_session.specs.Status.{status_number}
use Rattle.wind_session.specs.Command.{CommandState}
use Rattle.wind_session.specs.declared.command.Source.{Source}
use Rattle.wind_session.specs.declared.command.Source.TheVariants as sources
use Rattle.tick_file.specs.Schedule.{Timetable}
use Rattle.wind_session.specs.Plan.{Plan, Refuse, Start, IsEntry, IsFilePlan, IsPlanOf, IsPlan, plan_file, plan_of}
use Rattle.wind_session.specs.declared.run.RunEnd.{RunEnd}
use Rattle.wind_session.specs.declared.run.RunEnd.TheVariants as ends
use Rattle.wind_session.specs.declared.ending.Status.{Status}
use Rattle.wind_session.specs.declared.ending.Status.TheVariants as status
use Rattle.wind_session.specs.declared.ending.Which.{Which}
use Rattle.wind_session.specs.declared.ending.Stand.{Stand}
use Rattle.wind_session.specs.declared.ending.Stand.TheVariants as stands
use Rattle.wind_session.specs.declared.ending.Ending.{Ending}

-- a status without a board: memory may run out at any time, a read fault requires that the folder's count of
-- faults rose, and every other status is as planned
abbrev pub IsRefusal : Status → Plan → Type 0 → Type 0
IsRefusal status.NoMemory plan rose = Unit {0}
IsRefusal status.ReadFault plan rose = rose
IsRefusal status.Quiet plan rose = ⊥
IsRefusal status.Limit plan rose = ⊥
IsRefusal status.WriteFault plan rose = ⊥
IsRefusal s plan rose = plan ≡ Refuse s

-- the status refuses the file with this name, whatever would follow it
pub record IsUnread (s : Status) (which : Which) (files : Option Files) (name : List ℕ) (rose : Type 0) : Type 0 where
  pub file : Option (List ℕ)
  pub entry : IsEntry files name file
  pub refused : (next : List ℕ → Plan) → IsRefusal s (plan_file which next file) rose

-- whether a fetch can have failed: the folder's count of faults rose; for a generated session nothing is fetched
abbrev pub fetch_fault : Source → Type 0 → Type 0
fetch_fault sources.Files rose = rose
fetch_fault (sources.Generated n) rose = ⊥

-- the status refuses what the two files of a command ask for
abbrev pub RefusesFiles : Status → Option Files → CommandState → Type 0 → Type 0
RefusesFiles s files command rose = (plan : Plan) × IsFilePlan files command plan × IsRefusal s plan rose

-- the status refuses what a command asks for
abbrev pub Refuses : Status → Option Files → CommandState → Type 0 → Type 0
Refuses s files command rose = (plan : Plan) × IsPlanOf command.source files command plan × IsRefusal s plan (fetch_fault command.source rose)

-- the status of a run
abbrev pub status_of : RunEnd → Status
status_of ends.Quiet = status.Quiet
status_of ends.Limit = status.Limit
status_of ends.ReadFault = status.ReadFault
status_of ends.WriteFault = status.WriteFault
status_of ends.NoMemory = status.NoMemory

-- what the arguments play; if they are invalid, nothing
abbrev pub source_of : Option CommandState → Source
source_of None = sources.Files
source_of (Some command) = command.source

-- the folder of a command's modules
abbrev pub shelf_of : Option Files → CommandState → Shelf
shelf_of files command = record { files = files; name = command.modules }

-- the texts that sum a run up were put, or the put of one of them failed; if the run was given up, nothing was put
abbrev pub IsSummed : RunEnd → Status → List (List ℕ) → SinkLog → SinkLog → Type 0
IsSummed ends.ReadFault s texts old new = (s ≡ status.ReadFault) × (new ≡ old)
IsSummed ends.NoMemory s texts old new = (s ≡ status.NoMemory) × (new ≡ old)
IsSummed end s texts old new = ((s ≡ status_of end) × ArePut texts old new) ⊎ ((s ≡ status.WriteFault) × AreCutOff texts old new)

-- a run of a session generated with n rounds, after which the texts of one line are put
pub record SumsUp (n : ℕ) (s : Status) (end : RunEnd) (shelf : Shelf) (start : State) (limit : ℕ) (board : State) (old new : Outside) : Type 0 where
  pub said : Answers
  pub k : ℕ
  pub made : Made end shelf said start limit k board old.requests new.requests
  pub summed : IsSummed end s (summary n said start k (status_number (status_of end))) (sink_of old) (sink_of new)
  pub all_put : end ≢ ends.WriteFault

-- what a run leaves: what its steps wrote, or the line of a generated session
abbrev pub IsLeft : Source → Status → RunEnd → Shelf → State → ℕ → State → Outside → Outside → Type 0
IsLeft sources.Files s end shelf start limit board old new = (s ≡ status_of end) × Ran end shelf start limit board old new
IsLeft (sources.Generated n) s end shelf start limit board old new = SumsUp n s end shelf start limit board old new

-- a command was played on this board: the wind machine's, started with the console, the events of the tick file, these
-- devices, and the rule and kind of the command, and given the files of modules that it needed
pub record Played (s : Status) (plan : Plan) (command : CommandState) (devices : List (Option DeviceState)) (board : State) (before after : Around) : Type 0 where
  pub end : RunEnd
  pub console : List ℕ
  pub schedule : Timetable
  pub planned : plan ≡ Start console schedule
  pub left : IsLeft command.source s end (shelf_of before.files command) (opening console schedule devices command.profile command.board) command.limit board (with_inputs command before.logged) after.logged

-- the arguments were a command, and it was played
abbrev pub IsPlayedOn : Status → Plan → Option CommandState → List (Option DeviceState) → State → Around → Around → Type 0
IsPlayedOn s plan None devices board before after = ⊥
IsPlayedOn s plan (Some command) devices board before after = Played s plan command devices board before after

-- a session without a run: nothing was put, and only the files of the command were fetched
pub record NotPlayed (s : Status) (plan : Plan) (command : Option CommandState) (fault : Type 0) (old new : Outside) : Type 0 where
  pub bytes : new.bytes ≡ old.bytes
  pub pieces : new.pieces ≡ old.pieces
  pub refusal : IsRefusal s plan fault
  pub fetches : EndsWithInputs command s old.requests new.requests

-- nothing was played: a read fault requires that a fetch failed
abbrev pub IsNotPlayed : Status → Plan → Option CommandState → Around → Around → Type 0
IsNotPlayed s plan command before after = NotPlayed s plan command (fetch_fault (source_of command) (FolderFailed before after)) before.logged after.logged

-- what is left: the slots as they were, or the board of a run, after the files of the command were fetched
abbrev pub Leaves : {I : Type 0} {X : I → Type 0} → (Board I X → State) → Status → Stand I X → Plan → Option CommandState → Vec (Option (DynBox I Global X)) Global → List (Option DeviceState) → Around → Around → Type 0
Leaves state s (stands.NotBooted back) plan command slots devices before after = (back ≡ slots) × IsNotPlayed s plan command before after
Leaves state s (stands.Booted board) plan command slots devices before after = IsPlayedOn s plan command devices (state board) before after

-- playing a command leaves what the wind machine leaves
pub record Plays {I : Type 0} {X : I → Type 0} (state : Board I X → State) (ending : Ending I X) (command : Option CommandState) (slots : Vec (Option (DynBox I Global X)) Global) (devices : List (Option DeviceState)) (before after : Around) : Type 0 where
  pub plan : Plan
  pub planned : IsPlan before.files command plan
  pub leaves : Leaves state ending.status ending.stand plan command slots devices before after

-- the board that is left keeps the invariant, and what holds at each instant
abbrev pub IsKept : {I : Type 0} {X : I → Type 0} → (Board I X → State) → Stand I X → Type 0
IsKept state (stands.NotBooted back) = Unit {0}
IsKept state (stands.Booted board) = Good (state board) × IsInstant (state board).world

-- a status of a session that was played, or of one that ran out of memory
abbrev pub IsPlayed : Status → Type 0
IsPlayed status.Quiet = Unit {0}
IsPlayed status.Limit = Unit {0}
IsPlayed status.NoMemory = Unit {0}
IsPlayed s = ⊥

-- there is a session to play: the two files of a folder that tells its files, or a generated one
abbrev pub IsThere : Source → CommandState → Option Files → Type 0
IsThere sources.Files command None = ⊥
IsThere sources.Files command (Some held) = (console : List ℕ) × (schedule : Timetable) × (plan_of (held command.console) (held command.ticks) ≡ Start console schedule)
IsThere (sources.Generated n) command files = Unit {0}

-- with a command, a session to play and no fault, the session is played
abbrev pub IsComplete : Status → Option CommandState → Around → Around → Type 0
IsComplete s None before after = Unit {0}
IsComplete s (Some command) before after = IsThere command.source command before.files → (FolderFailed before after → ⊥) → (SinkFailed before after → ⊥) → IsPlayed s
