-- What the program does with the arguments of its command line.
use Rattle.std.specs.Prelude.{◌≡◌, ◌≢◌, ◌⊎◌, ◌↔◌, ℕ, List, [], ◌∷◌, Option, Some, None, codes}
use Rattle.wind_outside.specs.Devices.{DeviceState}
use Rattle.wind_outside.specs.declared.device.DeviceKind.TheVariants as kinds
use Rattle.board_player.specs.WindMachineState.{State}
use Rattle.board_player.specs.WindMachineGood.{Good}
use Rattle.board_player.specs.WindMachineInstants.{IsInstant}
use Rattle.wind_session.specs.Command.{CommandState}
use Rattle.wind_session.specs.Fetches.{FailsLast}
use Rattle.wind_session.specs.Headline.{IsComplete, IsNotPlayed, IsPlayedOn}
use Rattle.wind_session.specs.Keeping.{Around, FolderFailed, Messages, SinkFailed}
use Rattle.wind_session.specs.Plan.{Plan, IsPlan}
use Rattle.wind_session.specs.Status.{status_number}
use Rattle.wind_session.specs.Texts.{Tells}
use Rattle.wind_session.specs.declared.ending.Status.{Status}
use Rattle.wind_session.specs.declared.ending.Status.TheVariants as status

-- the devices of the program's board: a latch of zeros, an empty queue of bytes and a counter at 0, in slots 0, 1 and 2
abbrev pub opening_devices : List (Option DeviceState)
opening_devices =
    Some (record { kind = kinds.Latch; words = 0 ∷ 0 ∷ 0 ∷ 0 ∷ [] })
    ∷ Some (record { kind = kinds.ByteFifo; words = [] })
    ∷ Some (record { kind = kinds.EventCounter; words = 0 ∷ [] })
    ∷ []

-- a command was played on a board with these devices, and the board has its invariant and what holds at each instant
pub record PlayedOn (s : Status) (plan : Plan) (command : Option CommandState) (devices : List (Option DeviceState)) (before after : Around) : Type 0 where
  pub board : State
  pub played : IsPlayedOn s plan command devices board before after
  pub good : Good board
  pub instant : IsInstant board.world

-- a session of these arguments, on the program's board
pub record Session (s : Status) (command : Option CommandState) (before after : Around) : Type 0 where
  pub plan : Plan
  pub planned : IsPlan before.files command plan
  pub leaves : IsNotPlayed s plan command before after ⊎ PlayedOn s plan command opening_devices before after
  pub usage : s ≢ status.NoMemory → ((s ≡ status.Usage) ↔ (command ≡ None))
  pub complete : IsComplete s command before after
  pub fails_last : FailsLast s before.logged.requests after.logged.requests
  pub read_fault : s ≡ status.ReadFault → FolderFailed before after
  pub write_fault : s ≡ status.WriteFault → SinkFailed before after

-- a program with this name ends a session, reports how it ended, and gives the number of its status
pub record EndsAs (program : List ℕ) (number : ℕ) (IsSession : Status → Type 0) (command : Option CommandState) (before after : Messages) : Type 0 where
  pub ended : Status
  pub number_is : number ≡ status_number ended
  pub session : IsSession ended
  pub tells : Tells program ended command before after

-- the program plays the session of these arguments, reports how it ended, and ends with the number of its status
abbrev pub Ends : ℕ → Option CommandState → Around → Around → Messages → Messages → Type 0
Ends number command before after err_before err_after = EndsAs (codes "windplay") number (λ s. Session s command before after) command err_before err_after
