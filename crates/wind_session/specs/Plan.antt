-- What a command and its files ask for.
use Rattle.std.specs.Prelude.{◌≡◌, ℕ, ◌≤◌, List, Option, Some, None, nat_lt, if◌then◌else◌, length}
use Rattle.wind_base.specs.Limits.{longest_text_file}
use Rattle.wind_outside.specs.Files.{Files}
use Rattle.tick_file.specs.Lines.{first_bad_line}
use Rattle.tick_file.specs.Schedule.{Timetable, timetable_of}
use Rattle.wind_session.specs.Command.{CommandState}
use Rattle.generated_session.specs.Session.{generated_console, generated_ticks}
use Rattle.wind_session.specs.declared.command.Source.{Source}
use Rattle.wind_session.specs.declared.command.Source.TheVariants as sources
use Rattle.wind_session.specs.declared.ending.Status.{Status}
use Rattle.wind_session.specs.declared.ending.Status.TheVariants as status
use Rattle.wind_session.specs.declared.ending.Which.{Which}
use Rattle.wind_session.specs.declared.ending.Which.TheVariants as which

-- a refusal, or a console to play with the timetable of a tick file
pub data Plan : Type 0 where
  Refuse : Status → Plan
  Start : List ℕ → Timetable → Plan

-- a console is played with the events of a tick file, unless a line of the tick file is invalid
abbrev pub plan_lines : List ℕ → List ℕ → Option ℕ → Plan
plan_lines console ticks None = Start console (timetable_of ticks)
plan_lines console ticks (Some n) = Refuse (status.BadTicks n)

-- the plan for a tick file, by its first invalid line
abbrev pub plan_ticks : List ℕ → List ℕ → Plan
plan_ticks console ticks = plan_lines console ticks (first_bad_line ticks)

-- a file goes on to the next plan, unless it doesn't exist or is longer than 1 MiB
abbrev pub plan_file : Which → (List ℕ → Plan) → Option (List ℕ) → Plan
plan_file file next None = Refuse (status.Absent file)
plan_file file next (Some bytes) = if nat_lt longest_text_file (length bytes) then Refuse (status.TooLong file) else next bytes

-- the order of refusals: the console file, the tick file, and its lines
abbrev pub plan_of : Option (List ℕ) → Option (List ℕ) → Plan
plan_of console ticks = plan_file which.Console (λ bytes. plan_file which.Ticks (plan_ticks bytes) ticks) console

-- the file with this name, in a folder that may leave its files untold
abbrev pub IsEntry : Option Files → List ℕ → Option (List ℕ) → Type 0
IsEntry None name file = Unit {0}
IsEntry (Some held) name file = file ≡ held name

-- the file with this name has these bytes, and at most 1 MiB of them
pub record IsHeld (files : Option Files) (name bytes : List ℕ) : Type 0 where
  pub entry : IsEntry files name (Some bytes)
  pub within : length bytes ≤ longest_text_file

-- the plan of a command, given the folder's two files
pub record IsFilePlan (files : Option Files) (command : CommandState) (plan : Plan) : Type 0 where
  pub console : Option (List ℕ)
  pub ticks : Option (List ℕ)
  pub console_entry : IsEntry files command.console console
  pub ticks_entry : IsEntry files command.ticks ticks
  pub plan_is : plan ≡ plan_of console ticks

-- the plan of a session generated with n rounds, for which no file is read
abbrev pub generated_plan : ℕ → Plan
generated_plan n = Start (generated_console n) (timetable_of (generated_ticks n))

-- the plan of a command that plays this source
abbrev pub IsPlanOf : Source → Option Files → CommandState → Plan → Type 0
IsPlanOf sources.Files files command plan = IsFilePlan files command plan
IsPlanOf (sources.Generated n) files command plan = plan ≡ generated_plan n

-- invalid arguments are refused before any file
abbrev pub IsPlan : Option Files → Option CommandState → Plan → Type 0
IsPlan files None plan = plan ≡ Refuse status.Usage
IsPlan files (Some command) plan = IsPlanOf command.source files command plan
