-- What of a run is told: of which steps, of which tasks, and which kinds of happenings.
use Rattle.std.specs.Prelude.{◌≡◌, ℕ, zero, suc, ◌+◌, ◌<◌, Bool, true, false, ◌&&◌, ◌==◌, nat_le, if◌then◌else◌, List, [], Option, None, Some}
use Rattle.std.specs.List.{filter, list_any}
use Rattle.std.specs.Option.{option_map}
use denote.Enum.Declared.{tag_of}
use Rattle.wind_machine.specs.LiveLoadingSaid.{FileSaid}
use Rattle.wind_machine.specs.State.{State}
use Rattle.wind_machine.specs.Run.{Answers, after}
use Rattle.board_changes.specs.declared.change.Change.{Change}
use Rattle.board_changes.specs.declared.change.Change.TheVariants as changes
use Rattle.board_trace.specs.Runs.{Line, step_lines, with_line, with_lines}
use Rattle.board_trace.specs.Subjects.{subject_of}
use Rattle.board_trace.specs.declared.happening.Happening.{Happening}
use Rattle.board_trace.specs.declared.happening.Happening.TheVariants as told
use Rattle.board_trace.specs.declared.who.Subject.{Subject}
use Rattle.board_trace.specs.declared.who.Subject.TheVariants as subjects
use Rattle.trace_session.specs.contracts.choice.Kind.{the_type}
use Rattle.trace_session.specs.declared.choice.Choice.{Choice}
use Rattle.trace_session.specs.declared.choice.Kind.{Kind}
use Rattle.trace_session.specs.declared.choice.Kind.TheVariants as kinds

-- ---- kinds
-- the kind of a change
abbrev pub kind_of_change : Change → Kind
kind_of_change (changes.Spawned who pri) = kinds.Tasks
kind_of_change (changes.Deleted who) = kinds.Tasks
kind_of_change (changes.Suspended who) = kinds.Tasks
kind_of_change (changes.Resumed who) = kinds.Tasks
kind_of_change (changes.Waits who object until) = kinds.Waits
kind_of_change (changes.Sleeps who until) = kinds.Waits
kind_of_change (changes.Served who object answer) = kinds.Waits
kind_of_change (changes.Failed who object errno) = kinds.Waits
kind_of_change (changes.GoesOn who object) = kinds.Waits
kind_of_change (changes.Wakes who) = kinds.Waits
kind_of_change (changes.Priority who from to inherited) = kinds.Priorities
kind_of_change (changes.Normal who to) = kinds.Priorities
kind_of_change (changes.Yields who) = kinds.Runs
kind_of_change (changes.Started watchdog due) = kinds.Watchdogs
kind_of_change (changes.Fired watchdog) = kinds.Watchdogs
kind_of_change (changes.Cancelled watchdog) = kinds.Watchdogs
kind_of_change (changes.Loaded id) = kinds.Modules
kind_of_change (changes.Unloaded id) = kinds.Modules

-- the kind of a happening
abbrev pub kind_of : Happening → Kind
kind_of (told.Tick tick) = kinds.Outside
kind_of (told.Arrival count) = kinds.Outside
kind_of (told.Interrupt slot) = kinds.Outside
kind_of (told.Delivery slot) = kinds.Outside
kind_of (told.Jump time) = kinds.Outside
kind_of (told.File name) = kinds.Outside
kind_of (told.Runs who last) = kinds.Runs
kind_of (told.Called who call reply) = kinds.Calls
kind_of (told.Exception who at cause) = kinds.Exceptions
kind_of told.Abort = kinds.Exceptions
kind_of (told.Owned mutex owner) = kinds.Owners
kind_of (told.Freed mutex owner) = kinds.Owners
kind_of (told.Queued queue sender) = kinds.Messages
kind_of (told.HandedOver queue sender receiver) = kinds.Messages
kind_of (told.Taken queue receiver) = kinds.Messages
kind_of (told.Changed change) = kind_of_change change
kind_of told.RoutineEnds = kinds.Routines
kind_of (told.RoutineBegins entry param) = kinds.Routines
kind_of (told.Writes who bytes) = kinds.Output
kind_of (told.Instructions who count) = kinds.Instructions

-- ---- a choice
-- the steps from `first` to `last`, or to the last of the run; these tasks, or everybody and the board; these kinds, or all
pub record ChoiceState : Type 0 where
  pub first : ℕ
  pub last : Option ℕ
  pub tasks : Option (List ℕ)
  pub kinds : Option (List Kind)

abbrev pub choice_state : Choice → ChoiceState
choice_state c = record { first = c.first; last = c.last; tasks = option_map (λ v. v.items) c.tasks; kinds = option_map (λ v. v.items) c.kinds }

-- everything
abbrev pub everything : ChoiceState
everything = record { first = 1; last = None; tasks = None; kinds = None }

-- a step isn't after the last one
abbrev pub is_up_to : Option ℕ → ℕ → Bool
is_up_to None step = true
is_up_to (Some last) step = nat_le step last

-- the step with this number is one of those
abbrev pub is_step : ChoiceState → ℕ → Bool
is_step c step = nat_le c.first step && is_up_to c.last step

-- the subject of a happening is one of these tasks
abbrev pub is_of : Option (List ℕ) → Subject → Bool
is_of None who = true
is_of (Some ids) (subjects.Task id) = list_any (λ i. i == id) ids
is_of (Some ids) subjects.Board = false
is_of (Some ids) subjects.Interrupt = false

-- it is one of these kinds
abbrev pub is_among : Option (List Kind) → Kind → Bool
is_among None kind = true
is_among (Some ks) kind = list_any (λ k. tag_of the_type k == tag_of the_type kind) ks

-- a happening in the step with this number is told
abbrev pub chosen : ChoiceState → ℕ → Happening → Bool
chosen c step h = is_step c step && (is_of c.tasks (subject_of h) && is_among c.kinds (kind_of h))

abbrev pub is_chosen : ChoiceState → Line → Bool
is_chosen c l = chosen c l.step l.what

-- the lines of a step that are told
abbrev pub chosen_in : ChoiceState → FileSaid → State → State → List Line
chosen_in c said s t = filter (is_chosen c) (step_lines said s t)

-- the lines of the first k steps from s that are told, the newest first; they are chosen before instructions are joined
abbrev pub chosen_lines : ChoiceState → Answers → State → ℕ → List Line
chosen_lines c said s zero = []
chosen_lines c said s (suc k) = with_lines (chosen_in c (said k) (after said s k) (after said s (suc k))) (chosen_lines c said s k)

-- adds a line to these if it is told
abbrev pub with_if : Bool → Line → List Line → List Line
with_if b next made = if b then with_line next made else made

-- the steps after the first n, up to n + k, are all among those of the choice, or none is
abbrev pub AreAlike : ChoiceState → ℕ → ℕ → Type 0
AreAlike c n k = (j : ℕ) → j < k → is_step c (n + j + 1) ≡ is_step c (n + 1)
