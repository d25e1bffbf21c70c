-- What the arguments of the command line ask for, by the definition of a simple command of `clap`.
use Rattle.std.specs.Prelude.{ℕ, ◌≤◌, List, [], ◌∷◌, Option, Some, None, unwrap_or, nat_le, if◌then◌else◌, ◌==◌, length, codes}
use Rattle.wind_base.specs.Limits.{most_steps}
use Rattle.wind_base.specs.declared.board_kind.BoardKind.{BoardKind}
use Rattle.wind_base.specs.declared.board_kind.BoardKind.TheVariants as boards
use Rattle.wind_base.specs.declared.profile.Profile.{Profile}
use Rattle.wind_base.specs.declared.profile.Profile.TheVariants.{One, Two}
use Rattle.wind_base.specs.Decimal.{decimal_value}
use Rattle.generated_session.specs.Session.{most_rounds}
use Rattle.clap.specs.Kinds.{Kinds}
use Rattle.clap.specs.Words.{App, Row, Rule, Text, fault_of, first_of, matches_of, new_app, new_rule, with_rule}
use Rattle.wind_session.specs.declared.command.Source.{Source}
use Rattle.wind_session.specs.declared.command.Source.TheVariants as sources

-- ---- the words
-- what clap finds, if there is no fault; a call for help is such a fault
abbrev pub unless_fault : Kinds → List Row → Option (List Row)
unless_fault [] rows = Some rows
unless_fault (kind ∷ kinds) rows = None

-- what clap finds in these words for a program with this command line, or none if it refuses them; the first word is the
-- program's name
unfoldable pub rows_given : App → List Text → Option (List Row)
rows_given app words = unless_fault (fault_of app words) (matches_of app words)

-- what is made of a value, or none if the value is invalid
abbrev pub if_valid : {V C : Type 0} → Option V → (V → Option C) → Option C
if_valid None make = None
if_valid (Some value) make = make value

-- ---- options
-- an option that takes one value: its name and its default
abbrev pub option_rule : Text → Text → Rule
option_rule name default = record (new_rule name) { long = Some name; value_names = 1; defaults = default ∷ [] }

abbrev pub with_option : Text → Text → App → App
with_option name default app = with_rule app (option_rule name default)

-- the value that clap gives for an option; there always is one, because each option has a default
abbrev pub value_of : Text → List Row → Text
value_of name rows = unwrap_or (first_of name rows) []

-- the most digits that a number may have
abbrev pub most_number_digits : ℕ
most_number_digits = 13

-- a number: 1 to 13 decimal digits, with a value of at most `most`
abbrev pub number_value : ℕ → Text → Option ℕ
number_value most text = if nat_le (length text) most_number_digits then decimal_value most text else None

-- ---- the options of every program that plays a session
-- a command line with these options, each with its default
abbrev pub with_board_options : App → App
with_board_options app =
    with_option (codes "board") (codes "1")
    (with_option (codes "profile") (codes "1")
    (with_option (codes "modules") (codes ".") app))

-- the rule of inheritance with this number
abbrev pub profile_of_number : Option ℕ → Option Profile
profile_of_number None = None
profile_of_number (Some n) = if n == 1 then Some One else if n == 2 then Some Two else None

-- the greatest number of a rule
abbrev pub most_profiles : ℕ
most_profiles = 2

-- a rule: 1 or 2
abbrev pub profile_value : Text → Option Profile
profile_value text = profile_of_number (number_value most_profiles text)

-- the kind of board with this number
abbrev pub board_of_number : Option ℕ → Option BoardKind
board_of_number None = None
board_of_number (Some n) = if n == 1 then Some boards.One else if n == 2 then Some boards.Two else None

-- the greatest number of a kind
abbrev pub most_boards : ℕ
most_boards = 2

-- a kind: 1 or 2
abbrev pub board_value : Text → Option BoardKind
board_value text = board_of_number (number_value most_boards text)

-- their values: the folder of modules, the rule of inheritance, and the kind of board
pub record BoardOptionsState : Type 0 where
  pub modules : List ℕ
  pub profile : Profile
  pub board : BoardKind

-- those of clap's matches; none if the rule or the kind is invalid
abbrev pub board_options_value : List Row → Option BoardOptionsState
board_options_value rows =
    if_valid (profile_value (value_of (codes "profile") rows)) (λ profile.
    if_valid (board_value (value_of (codes "board") rows)) (λ board.
    Some (record { modules = value_of (codes "modules") rows; profile = profile; board = board })))

-- ---- the command of a session
-- what this number of rounds asks for: with 0, the files are played
abbrev pub source_of_number : Option ℕ → Option Source
source_of_number None = None
source_of_number (Some n) = Some (if n == 0 then sources.Files else sources.Generated n)

-- a source: a number of rounds, at most 10,000
abbrev pub source_value : Text → Option Source
source_value text = source_of_number (number_value most_rounds text)

-- a generated session has at most 10,000 rounds
abbrev pub HasFewRounds : Source → Type 0
HasFewRounds sources.Files = Unit {0}
HasFewRounds (sources.Generated n) = n ≤ most_rounds

-- a command: the names of the console file, of the tick file and of the folder of modules; the most steps that the
-- run makes; whether the files or a generated session is played; the rule of inheritance; and the kind of board
pub record CommandState : Type 0 where
  pub console : List ℕ
  pub ticks : List ℕ
  pub modules : List ℕ
  pub limit : ℕ
  pub source : Source
  pub profile : Profile
  pub board : BoardKind

-- a command line with the options of a session, each with its default
abbrev pub with_session_options : App → App
with_session_options app =
    with_board_options
    (with_option (codes "generate") (codes "0")
    (with_option (codes "limit") (codes "1000000")
    (with_option (codes "ticks") (codes "ticks.txt")
    (with_option (codes "console") (codes "console.txt") app))))

-- the command of clap's matches; none if a value is invalid
abbrev pub command_of_rows : List Row → Option CommandState
command_of_rows rows =
    if_valid (number_value most_steps (value_of (codes "limit") rows)) (λ limit.
    if_valid (source_value (value_of (codes "generate") rows)) (λ source.
    if_valid (board_options_value rows) (λ options.
    Some (record {
      console = value_of (codes "console") rows;
      ticks = value_of (codes "ticks") rows;
      modules = options.modules;
      limit = limit;
      source = source;
      profile = options.profile;
      board = options.board;
    }))))

-- ---- windplay
-- its command line, as clap reads it
unfoldable pub app : App
app = with_session_options (new_app (codes "windplay"))

-- its command: the one that these words give, or none if clap refuses them or a value is invalid; the first word is the
-- program's name
unfoldable pub command_of : List Text → Option CommandState
command_of words = if_valid (rows_given app words) command_of_rows
