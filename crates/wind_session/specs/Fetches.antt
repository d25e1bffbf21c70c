-- Which files a session fetches, in which order, and how each fetch ends. A folder that doesn't log its requests
-- leaves all of this open.
use Rattle.std.specs.Prelude.{◌≡◌, ◌≢◌, ◌⊎◌, ℕ, zero, suc, List, [], ◌∷◌, ◌++◌, Option, None, Some, if◌then◌else◌}
use Rattle.std.specs.List.{All}
use Rattle.std.specs.Str.{is_utf8}
use Rattle.wind_base.specs.Limits.{longest_module_file, longest_text_file}
use Rattle.wind_outside.specs.Requests.{GrowsBy, Request}
use Rattle.wind_outside.specs.declared.folder.FetchOutcome.{FetchOutcome}
use Rattle.wind_outside.specs.declared.folder.FetchOutcome.TheVariants as outcomes
use Rattle.board_player.specs.LiveLoadingSaid.{FileSaid, Held, Missing, TooLong}
use Rattle.board_player.specs.WindMachineState.{State}
use Rattle.board_player.specs.WindMachineMachine.{file_asked}
use Rattle.board_player.specs.WindMachineRun.{Answers, after}
use Rattle.wind_session.specs.Command.{CommandState}
use Rattle.wind_session.specs.Paths.{path_in}
use Rattle.wind_session.specs.declared.command.Source.{Source}
use Rattle.wind_session.specs.declared.command.Source.TheVariants as sources
use Rattle.wind_session.specs.declared.run.RunEnd.{RunEnd}
use Rattle.wind_session.specs.declared.run.RunEnd.TheVariants as ends
use Rattle.wind_session.specs.declared.ending.Status.{Status}
use Rattle.wind_session.specs.declared.ending.Status.TheVariants as status
use Rattle.wind_session.specs.declared.ending.Which.{Which}
use Rattle.wind_session.specs.declared.ending.Which.TheVariants as which

-- ---- the two files of a command
-- the request for a text file
abbrev pub text_request : List ℕ → FetchOutcome → Request
text_request name outcome = record { name = name; limit = longest_text_file; outcome = outcome }

-- the request for the console file and, only if that was found, the one for the tick file; the outcomes are those of the two fetches
abbrev pub file_requests : CommandState → FetchOutcome → FetchOutcome → List Request
file_requests c outcomes.Found ticks = text_request c.console outcomes.Found ∷ text_request c.ticks ticks ∷ []
file_requests c outcomes.Missing ticks = text_request c.console outcomes.Missing ∷ []
file_requests c outcomes.TooLong ticks = text_request c.console outcomes.TooLong ∷ []
file_requests c outcomes.Failed ticks = text_request c.console outcomes.Failed ∷ []
file_requests c outcomes.NoMemory ticks = text_request c.console outcomes.NoMemory ∷ []

-- if the files are played, both are fetched and found; for a generated session, no file is fetched
abbrev pub source_requests : Source → CommandState → List Request
source_requests sources.Files c = file_requests c outcomes.Found outcomes.Found
source_requests (sources.Generated n) c = []

-- the status that the fetch of a file leads to; if it found the file, what follows decides
abbrev pub LeadsTo : Which → FetchOutcome → Status → Type 0 → Type 0
LeadsTo file outcomes.Found s follows = follows
LeadsTo file outcomes.Missing s follows = s ≡ status.Absent file
LeadsTo file outcomes.TooLong s follows = s ≡ status.TooLong file
LeadsTo file outcomes.Failed s follows = s ≡ status.ReadFault
LeadsTo file outcomes.NoMemory s follows = s ≡ status.NoMemory

-- a status without a run although both files were found: a line of the tick file is invalid, or memory ran out
abbrev pub IsAfterFiles : Status → Type 0
IsAfterFiles (status.BadTicks line) = Unit {0}
IsAfterFiles status.NoMemory = Unit {0}
IsAfterFiles s = ⊥

-- the two files were fetched, and the session ended with this status without a run
pub record EndsWithFiles (c : CommandState) (s : Status) (old new : Option (List Request)) : Type 0 where
  pub console : FetchOutcome
  pub ticks : FetchOutcome
  pub requests : GrowsBy old new (file_requests c console ticks)
  pub status_is : LeadsTo which.Console console s (LeadsTo which.Ticks ticks s (IsAfterFiles s))

-- the requests of a session without a run; there are none if memory runs out before the first, or if the session
-- is generated
abbrev pub EndsWithSource : Source → CommandState → Status → Option (List Request) → Option (List Request) → Type 0
EndsWithSource sources.Files c s old new = EndsWithFiles c s old new ⊎ ((s ≡ status.NoMemory) × (new ≡ old))
EndsWithSource (sources.Generated n) c s old new = (s ≡ status.NoMemory) × (new ≡ old)

-- if the arguments are invalid, there are none
abbrev pub EndsWithInputs : Option CommandState → Status → Option (List Request) → Option (List Request) → Type 0
EndsWithInputs None s old new = new ≡ old
EndsWithInputs (Some c) s old new = EndsWithSource c.source c s old new

-- ---- the modules of a run
-- how the fetch ended, given the answer about the file that the machine gets
abbrev pub outcome_said : FileSaid → FetchOutcome
outcome_said (Held bytes) = outcomes.Found
outcome_said Missing = outcomes.Missing
outcome_said TooLong = outcomes.TooLong

-- the request for a module, at its path in the folder of modules; there is none for a name that is not UTF-8
abbrev pub module_request : List ℕ → List ℕ → FetchOutcome → List Request
module_request folder name outcome =
    if is_utf8 name then record { name = path_in folder name; limit = longest_module_file; outcome = outcome } ∷ [] else []

-- the request of a step that needs this file; if it needs none, there is no request
abbrev pub step_request : List ℕ → Option (List ℕ) → FetchOutcome → List Request
step_request folder None outcome = []
step_request folder (Some name) outcome = module_request folder name outcome

-- the requests of the first k steps from s, in the order of the steps
abbrev pub requests_of : List ℕ → Answers → State → ℕ → List Request
requests_of folder said s zero = []
requests_of folder said s (suc k) = requests_of folder said s k ++ step_request folder (file_asked (after said s k)) (outcome_said (said k))

-- the request at which a run ends, if its next step needs this file:
-- after a failed read it is one that failed; if memory ran out, it is none or one that didn't fail; otherwise it
-- is none
abbrev pub IsLastRequest : RunEnd → List ℕ → Option (List ℕ) → List Request → Type 0
IsLastRequest ends.ReadFault folder asked last = (last ≡ step_request folder asked outcomes.Failed) × (last ≢ [])
IsLastRequest ends.NoMemory folder asked last = (outcome : FetchOutcome) × (outcome ≢ outcomes.Failed) × ((last ≡ []) ⊎ (last ≡ step_request folder asked outcome))
IsLastRequest ends.Quiet folder asked last = last ≡ []
IsLastRequest ends.Limit folder asked last = last ≡ []
IsLastRequest ends.WriteFault folder asked last = last ≡ []

-- what the step at which a run ends adds to the requests
pub record Stops (end : RunEnd) (folder : List ℕ) (asked : Option (List ℕ)) (old new : Option (List Request)) : Type 0 where
  pub last : List Request
  pub last_is : IsLastRequest end folder asked last
  pub requests : GrowsBy old new last

-- the requests of a run that ended like this after k steps: those of its steps, and the one at which it ended
pub record Requests (end : RunEnd) (folder : List ℕ) (said : Answers) (s : State) (k : ℕ) (old new : Option (List Request)) : Type 0 where
  pub last : List Request
  pub last_is : IsLastRequest end folder (file_asked (after said s k)) last
  pub requests : GrowsBy old new (requests_of folder said s k ++ last)

-- ---- failures
-- a fetch that didn't fail
abbrev pub IsFine : Request → Type 0
IsFine r = r.outcome ≢ outcomes.Failed

-- the failure with which a session of this status ends: one failed fetch if the status is ReadFault, otherwise none
abbrev pub IsFailure : Status → List Request → Type 0
IsFailure status.ReadFault last = (r : Request) × (last ≡ r ∷ []) × (r.outcome ≡ outcomes.Failed)
IsFailure s last = last ≡ []

-- none of a session's requests failed except the last, and that one failed exactly if the status is ReadFault
pub record FailsLast (s : Status) (old new : Option (List Request)) : Type 0 where
  pub prefix : List Request
  pub last : List Request
  pub requests : GrowsBy old new (prefix ++ last)
  pub fine : All IsFine prefix
  pub failure : IsFailure s last
