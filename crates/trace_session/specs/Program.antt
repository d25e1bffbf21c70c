-- What the program does with the arguments of its command line.
use Rattle.std.specs.Prelude.{◌≡◌, ◌≢◌, ◌⊎◌, ◌↔◌, ℕ, List, Option, None, codes}
use Rattle.wind_outside.specs.Devices.{DeviceState}
use Rattle.wind_session.specs.WindMachineState.{State}
use Rattle.wind_session.specs.WindMachineGood.{Good}
use Rattle.wind_session.specs.WindMachineInstants.{IsInstant}
use Rattle.wind_session.specs.Headline.{IsComplete, IsNotPlayed}
use Rattle.wind_session.specs.Keeping.{Around, FolderFailed, Messages, SinkFailed}
use Rattle.wind_session.specs.Plan.{Plan, IsPlan}
use Rattle.wind_session.specs.Program.{EndsAs, opening_devices}
use Rattle.wind_session.specs.declared.ending.Status.{Status}
use Rattle.wind_session.specs.declared.ending.Status.TheVariants as status
use Rattle.trace_session.specs.declared.traced.Product.{Product}
use Rattle.trace_session.specs.Command.{TraceState, session_of}
use Rattle.trace_session.specs.Headline.{IsTraced}

-- a board with these devices was played for a trace, and has its invariant and what holds at each instant
pub record TracedOn (s : Status) (plan : Plan) (command : Option TraceState) (devices : List (Option DeviceState)) (before after : Around) : Type 0 where
  pub board : State
  pub product : Product
  pub traced : IsTraced s plan command product devices board before after
  pub good : Good board
  pub instant : IsInstant board.world

-- a traced session of these arguments, on the program's board
pub record Session (s : Status) (command : Option TraceState) (before after : Around) : Type 0 where
  pub plan : Plan
  pub planned : IsPlan before.files (session_of command) plan
  pub leaves : IsNotPlayed s plan (session_of command) before after ⊎ TracedOn s plan command opening_devices before after
  pub usage : s ≢ status.NoMemory → ((s ≡ status.Usage) ↔ (command ≡ None))
  pub complete : IsComplete s (session_of command) before after
  pub read_fault : s ≡ status.ReadFault → FolderFailed before after
  pub write_fault : s ≡ status.WriteFault → SinkFailed before after

-- the program plays the session of these arguments for a trace, reports how it ended, and ends with the number of its status
abbrev pub Ends : ℕ → Option TraceState → Around → Around → Messages → Messages → Type 0
Ends number command before after err_before err_after = EndsAs (codes "windtrace") number (λ s. Session s command before after) (session_of command) err_before err_after
