-- What the arguments of the command line ask for, by the definition of a simple command of `clap`.
use Rattle.std.specs.Prelude.{ℕ, length, Bool, not, ◌&&◌, ◌==◌, if◌then◌else◌, List, [], Option, None, Some, codes}
use Rattle.std.specs.List.{list_all}
use Rattle.std.specs.Str.{bytes_eq}
use Rattle.wind_base.specs.Limits.{most_steps}
use Rattle.wind_base.specs.declared.board_kind.BoardKind.{BoardKind}
use Rattle.wind_base.specs.declared.profile.Profile.{Profile}
use Rattle.clap.specs.Words.{App, Row, Rule, Text, new_app, new_rule, with_rule}
use Rattle.clap.specs.declared.builder.action.ArgAction.TheVariants.{SetTrue}
use Rattle.wind_session.specs.Command.{board_options_value, if_valid, number_value, rows_given, value_of, with_board_options, with_option}

-- a command: the folder of modules, the folder of the record, whether a record that is there may be set aside, whether
-- the session goes on from it, the most steps after a part that was sent and after each tick, the rule of inheritance, and
-- the kind of board
pub record CommandState : Type 0 where
  pub modules : List ℕ
  pub record_folder : List ℕ
  pub force : Bool
  pub continues : Bool
  pub quiet_after : ℕ
  pub profile : Profile
  pub board : BoardKind

-- an option without a value
abbrev pub flag_rule : Text → Rule
flag_rule name = record (new_rule name) { long = Some name; action = Some SetTrue }

-- the command line, as clap reads it: its options with their defaults
unfoldable pub app : App
app =
    with_board_options
    (with_option (codes "quiet-after") (codes "1000000")
    (with_rule
    (with_rule
    (with_option (codes "continue") []
    (with_option (codes "record") []
    (new_app (codes "windlive"))))
    (flag_rule (codes "force")))
    (flag_rule (codes "terminal"))))

-- a name stands in one line
abbrev pub is_one_line : Text → Bool
is_one_line name = list_all (λ byte. not (byte == 10)) name

-- both names do, since a record has each of them in a line of its own
abbrev pub names_value : Text → Text → Option (Unit {0})
names_value modules record_folder = if is_one_line modules && is_one_line record_folder then Some tt else None

-- an option is left out, or its name is empty
abbrev pub is_left_out : Text → Bool
is_left_out name = length name == 0

-- a session that goes on needs neither another folder for its record nor leave to set a record aside
abbrev pub going_value : Text → Text → Bool → Option (Unit {0})
going_value record_folder continued force = if is_left_out continued then Some tt else if is_left_out record_folder && not force then Some tt else None

-- the folder of the record
abbrev pub folder_of : Text → Text → Text
folder_of record_folder continued = if is_left_out continued then record_folder else continued

-- the command of clap's matches; none if a value is invalid
abbrev pub command_of_rows : List Row → Option CommandState
command_of_rows rows =
    if_valid (number_value most_steps (value_of (codes "quiet-after") rows)) (λ quiet_after.
    if_valid (board_options_value rows) (λ options.
    if_valid (names_value options.modules (folder_of (value_of (codes "record") rows) (value_of (codes "continue") rows))) (λ names.
    if_valid (going_value (value_of (codes "record") rows) (value_of (codes "continue") rows) (bytes_eq (value_of (codes "force") rows) (codes "true"))) (λ going.
    Some (record {
      modules = options.modules;
      record_folder = folder_of (value_of (codes "record") rows) (value_of (codes "continue") rows);
      force = bytes_eq (value_of (codes "force") rows) (codes "true");
      continues = not (is_left_out (value_of (codes "continue") rows));
      quiet_after = quiet_after;
      profile = options.profile;
      board = options.board;
    })))))

-- the command that these words give, or none if clap refuses them or a value is invalid; the first word is the program's
-- name
unfoldable pub command_of : List Text → Option CommandState
command_of words = if_valid (rows_given app words) command_of_rows
