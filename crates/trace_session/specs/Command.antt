-- What the arguments of the command line ask for.
use Rattle.std.specs.Prelude.{ℕ, Bool, true, false, ◌&&◌, ◌==◌, List, [], ◌∷◌, Option, Some, None, if◌then◌else◌, codes}
use Rattle.std.specs.Option.{option_map}
use Rattle.std.specs.List.{slice_split}
use Rattle.std.specs.Str.{bytes_eq}
use Rattle.clap.specs.Words.{App, Row, Text, new_app}
use Rattle.wind_base.specs.Limits.{most_steps}
use Rattle.wind_session.specs.Command.{CommandState, number_value, command_of_rows as session_of_rows, if_valid, rows_given, value_of, with_option, with_session_options}
use Rattle.trace_session.specs.Choice.{ChoiceState, everything}
use Rattle.trace_session.specs.Kinds.{kind_named}
use Rattle.trace_session.specs.declared.choice.Kind.{Kind}
use Rattle.trace_session.specs.declared.forms.Form.{Form}
use Rattle.trace_session.specs.declared.forms.Form.TheVariants.{Events, JsonLines, Chrome, Timeline, State, Coverage, Summary, SummaryJson}

-- a command: the form in which a session is told, what is told of it, and the session
pub record TraceState : Type 0 where
  pub form : Form
  pub choice : ChoiceState
  pub session : CommandState

-- the form with this name
abbrev pub form_named : Text → Option Form
form_named name =
    if bytes_eq name (codes "events") then Some Events
    else if bytes_eq name (codes "json-lines") then Some JsonLines
    else if bytes_eq name (codes "chrome") then Some Chrome
    else if bytes_eq name (codes "timeline") then Some Timeline
    else if bytes_eq name (codes "state") then Some State
    else if bytes_eq name (codes "coverage") then Some Coverage
    else if bytes_eq name (codes "summary") then Some Summary
    else if bytes_eq name (codes "summary-json") then Some SummaryJson
    else None

-- ---- what is told
-- a command line with the options that choose it, each with its default
abbrev pub with_choice_options : App → App
with_choice_options app =
    with_option (codes "kinds") (codes "all")
    (with_option (codes "tasks") (codes "all")
    (with_option (codes "to") (codes "last")
    (with_option (codes "from") (codes "first") app)))

-- the number of a step, from 1 on
abbrev pub step_of_number : Option ℕ → Option ℕ
step_of_number None = None
step_of_number (Some n) = if n == 0 then None else Some n

abbrev pub step_value : Text → Option ℕ
step_value text = step_of_number (number_value most_steps text)

-- the first step that is told
abbrev pub first_value : Text → Option ℕ
first_value text = if bytes_eq text (codes "first") then Some 1 else step_value text

-- the last step that is told; none for the last of the run
abbrev pub last_value : Text → Option (Option ℕ)
last_value text = if bytes_eq text (codes "last") then Some None else option_map Some (step_value text)

-- a list: its items are separated by commas
abbrev pub parts : Text → List Text
parts text = slice_split (λ b. b == 44) text

-- the values of a list's items, or none if one is invalid
abbrev pub each : {V : Type 0} → (Text → Option V) → List Text → Option (List V)
each value [] = Some []
each value (t ∷ ts) = if_valid (value t) (λ v. option_map (λ vs. v ∷ vs) (each value ts))

-- the greatest id of a task
abbrev pub most_id : ℕ
most_id = 4294967295

-- the ids of tasks; none for everybody and the board
abbrev pub tasks_value : Text → Option (Option (List ℕ))
tasks_value text = if bytes_eq text (codes "all") then Some None else option_map Some (each (number_value most_id) (parts text))

-- the kinds; none for all
abbrev pub kinds_value : Text → Option (Option (List Kind))
kinds_value text = if bytes_eq text (codes "all") then Some None else option_map Some (each kind_named (parts text))

-- the choice of clap's matches; none if a value is invalid
abbrev pub choice_of_rows : List Row → Option ChoiceState
choice_of_rows rows =
    if_valid (first_value (value_of (codes "from") rows)) (λ first.
    if_valid (last_value (value_of (codes "to") rows)) (λ last.
    if_valid (tasks_value (value_of (codes "tasks") rows)) (λ tasks.
    if_valid (kinds_value (value_of (codes "kinds") rows)) (λ kinds.
    Some (record { first = first; last = last; tasks = tasks; kinds = kinds })))))

-- each of the options has its default
abbrev pub has_defaults : List Row → Bool
has_defaults rows =
    bytes_eq (value_of (codes "from") rows) (codes "first")
    && (bytes_eq (value_of (codes "to") rows) (codes "last")
    && (bytes_eq (value_of (codes "tasks") rows) (codes "all") && bytes_eq (value_of (codes "kinds") rows) (codes "all")))

-- the form is told of a choice
abbrev pub has_choice : Form → Bool
has_choice Events = true
has_choice JsonLines = true
has_choice Chrome = true
has_choice Timeline = true
has_choice State = false
has_choice Coverage = false
has_choice Summary = false
has_choice SummaryJson = false

-- other forms are told of everything
abbrev pub choice_for : Form → List Row → Option ChoiceState
choice_for form rows =
    if has_choice form then choice_of_rows rows
    else if has_defaults rows then Some everything
    else None

-- ---- the command
-- the command line, as clap reads it
unfoldable pub app : App
app = with_session_options (with_choice_options (with_option (codes "as") (codes "events") (new_app (codes "windtrace"))))

-- the command of clap's matches; none if a value is invalid
abbrev pub command_of_rows : List Row → Option TraceState
command_of_rows rows =
    if_valid (form_named (value_of (codes "as") rows)) (λ form.
    if_valid (choice_for form rows) (λ choice.
    if_valid (session_of_rows rows) (λ session.
    Some (record { form = form; choice = choice; session = session }))))

-- the command that these words give, or none if clap refuses them or a value is invalid; the first word is the program's
-- name
unfoldable pub command_of : List Text → Option TraceState
command_of words = if_valid (rows_given app words) command_of_rows

-- its session
abbrev pub session_of : Option TraceState → Option CommandState
session_of command = option_map (λ c. c.session) command
