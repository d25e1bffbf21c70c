-- What tracing a session leaves.
use Rattle.std.specs.Prelude.{◌≡◌, ◌⊎◌, ℕ, List, Option, Vec, Some, None}
use Rattle.std.specs.declared.dyn_box.DynBox.{DynBox}
use Rattle.std.specs.declared.alloc.Global.{Global}
use Rattle.wind_outside.specs.Devices.{DeviceState}
use Rattle.tick_file.specs.Schedule.{Timetable}
use Rattle.wind_session.specs.WindMachineState.{State}
use Rattle.wind_session.specs.WindMachineMachine.{opening}
use Rattle.wind_session.specs.BoardPlayerBoard.{Board}
use Rattle.wind_session.specs.Headline.{IsNotPlayed, shelf_of, status_of}
use Rattle.wind_session.specs.Keeping.{Around}
use Rattle.wind_session.specs.Modules.{Shelf}
use Rattle.wind_session.specs.Outside.{Outside, with_inputs}
use Rattle.wind_session.specs.Telling.{Told}
use Rattle.wind_session.specs.Plan.{Plan, Start, IsPlan}
use Rattle.wind_session.specs.declared.run.RunEnd.{RunEnd}
use Rattle.wind_session.specs.declared.ending.Status.{Status}
use Rattle.wind_session.specs.declared.ending.Status.TheVariants as status
use Rattle.wind_session.specs.declared.ending.Stand.{Stand}
use Rattle.wind_session.specs.declared.ending.Stand.TheVariants as stands
use Rattle.trace_session.specs.declared.traced.Product.{Product}
use Rattle.trace_session.specs.Choice.{ChoiceState}
use Rattle.trace_session.specs.Forms.{TellsForm, TellsLess}
use Rattle.trace_session.specs.declared.forms.Form.{Form}
use Rattle.trace_session.specs.Command.{TraceState, session_of}

-- the status is that of the run, or of a failed put; or memory ran out for the trace
abbrev pub IsLeft : Form → ChoiceState → Product → Status → Shelf → State → ℕ → State → Outside → Outside → Type 0
IsLeft form choice product s shelf start limit board old new =
    ((result : RunEnd) × (s ≡ status_of result) × Told (TellsForm form choice product result start old.bytes new.bytes) shelf start limit board old.requests new.requests)
    ⊎ ((s ≡ status.NoMemory) × Told (TellsLess form choice start old.bytes new.bytes) shelf start limit board old.requests new.requests)

-- a command was played for a trace on this board: the wind machine's, started with the console, the events of the tick
-- file, these devices, and the rule and kind of the command, and given the files of modules that it needed
pub record TracedBoard (s : Status) (plan : Plan) (command : TraceState) (product : Product) (devices : List (Option DeviceState)) (board : State) (before after : Around) : Type 0 where
  pub console : List ℕ
  pub schedule : Timetable
  pub planned : plan ≡ Start console schedule
  pub left : IsLeft command.form command.choice product s (shelf_of before.files command.session) (opening console schedule devices command.session.profile command.session.board) command.session.limit board (with_inputs command.session before.logged) after.logged

-- a command is there, and its board was played
abbrev pub IsTraced : Status → Plan → Option TraceState → Product → List (Option DeviceState) → State → Around → Around → Type 0
IsTraced s plan None product devices board before after = ⊥
IsTraced s plan (Some command) product devices board before after = TracedBoard s plan command product devices board before after

-- what is left: the slots as they were, or the board of a run
abbrev pub Leaves : {I : Type 0} {X : I → Type 0} → (Board I X → State) → Status → Stand I X → Product → Plan → Option TraceState → Vec (Option (DynBox I Global X)) Global → List (Option DeviceState) → Around → Around → Type 0
Leaves state s (stands.NotBooted back) product plan command slots devices before after = (back ≡ slots) × IsNotPlayed s plan (session_of command) before after
Leaves state s (stands.Booted board) product plan command slots devices before after = IsTraced s plan command product devices (state board) before after

-- tracing a command leaves what the wind machine leaves
pub record Traces {I : Type 0} {X : I → Type 0} (state : Board I X → State) (s : Status) (stand : Stand I X) (product : Product) (command : Option TraceState) (slots : Vec (Option (DynBox I Global X)) Global) (devices : List (Option DeviceState)) (before after : Around) : Type 0 where
  pub plan : Plan
  pub planned : IsPlan before.files (session_of command) plan
  pub leaves : Leaves state s stand product plan command slots devices before after
