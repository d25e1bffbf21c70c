-- The run that a session leaves, with what holds at each of its instants.
use Rattle.std.specs.Prelude.{◌≡◌, ◌⊎◌, ℕ, ◌≤◌, List, Option, Some, None}
use Rattle.wind_outside.specs.Requests.{Request}
use Rattle.tick_file.specs.Schedule.{Timetable}
use Rattle.wind_machine.specs.State.{State}
use Rattle.wind_machine.specs.Machine.{opening}
use Rattle.wind_machine.specs.Run.{Answers}
use Rattle.wind_session.specs.Command.{CommandState}
use Rattle.wind_session.specs.Headline.{IsNotPlayed, shelf_of}
use Rattle.wind_session.specs.Keeping.{Around}
use Rattle.wind_session.specs.Modules.{Shelf}
use Rattle.wind_session.specs.Outside.{with_inputs}
use Rattle.wind_session.specs.Plan.{Plan, Start, IsPlan}
use Rattle.wind_session.specs.Program.{opening_devices}
use Rattle.wind_session.specs.Runs.{Made}
use Rattle.wind_session.specs.Status.{status_number}
use Rattle.wind_session.specs.declared.ending.Status.{Status}
use Rattle.wind_session.specs.declared.run.RunEnd.{RunEnd}
use Rattle.session_promises.specs.Promises.{Promises}

-- from a start with this console file, k steps were made with the modules of a folder, and the promises hold at each
-- instant of this run
pub record KeepsPromises (shelf : Shelf) (file : List ℕ) (start : State) (limit : ℕ) (old new : Option (List Request)) : Type 0 where
  pub said : Answers
  pub k : ℕ
  pub end : RunEnd
  pub board : State
  pub made : Made end shelf said start limit k board old new
  pub at_each : (j : ℕ) → j ≤ k → Promises said file start j

-- a command was played on the program's board
pub record PlaysAsPromised (plan : Plan) (command : CommandState) (before after : Around) : Type 0 where
  pub console : List ℕ
  pub schedule : Timetable
  pub planned : plan ≡ Start console schedule
  pub run : KeepsPromises (shelf_of before.files command) console (opening console schedule opening_devices command.profile command.board) command.limit
      (with_inputs command before.logged).requests after.logged.requests

-- nothing was played, or a command was, and its run keeps the promises
abbrev pub IsAsPromised : Status → Plan → Option CommandState → Around → Around → Type 0
IsAsPromised s plan None before after = IsNotPlayed s plan None before after
IsAsPromised s plan (Some command) before after = IsNotPlayed s plan (Some command) before after ⊎ PlaysAsPromised plan command before after

-- the session that ends with this number
pub record Promised (number : ℕ) (command : Option CommandState) (before after : Around) : Type 0 where
  pub ended : Status
  pub number_is : number ≡ status_number ended
  pub plan : Plan
  pub planned : IsPlan before.files command plan
  pub session : IsAsPromised ended plan command before after
