-- The commands of some valid and invalid command lines. The first word is the program's name.
use Rattle.std.specs.Prelude.{◌≡◌, List, [], ◌∷◌, Option, Some, None, codes}
use Rattle.wind_base.specs.declared.board_kind.BoardKind.TheVariants as boards
use Rattle.wind_base.specs.declared.profile.Profile.TheVariants.{One, Two}
use Rattle.clap.specs.Words.{Text}
use Rattle.wind_session.specs.Command.{CommandState, command_of}
use Rattle.wind_session.specs.declared.command.Source.TheVariants as sources

-- the command of words after the program's name
abbrev pub command_after : List Text → Option CommandState
command_after words = command_of (codes "windplay" ∷ words)

-- the command if no option is given
abbrev pub defaults : CommandState
defaults = record { console = codes "console.txt"; ticks = codes "ticks.txt"; modules = codes "."; limit = 1000000; source = sources.Files; profile = One; board = boards.One }

-- words that are a command: options in any order, each at most once, with the value as the next word or after `=`
pub record RightWords : Type 0 where
  pub no_words : command_of [] ≡ Some defaults
  pub name_alone : command_after [] ≡ Some defaults
  pub dashes_alone : command_after (codes "--" ∷ []) ≡ Some defaults
  pub limit_next : command_after (codes "--limit" ∷ codes "5" ∷ []) ≡ Some (record defaults { limit = 5 })
  pub limit_after : command_after (codes "--limit=5" ∷ []) ≡ Some (record defaults { limit = 5 })
  pub limit_of_13_digits : command_after (codes "--limit" ∷ codes "0000000000005" ∷ []) ≡ Some (record defaults { limit = 5 })
  pub greatest_limit : command_after (codes "--limit" ∷ codes "1000000000000" ∷ []) ≡ Some (record defaults { limit = 1000000000000 })
  pub no_limit : command_after (codes "--limit" ∷ codes "0" ∷ []) ≡ Some (record defaults { limit = 0 })
  pub dash_after : command_after (codes "--console=-x" ∷ []) ≡ Some (record defaults { console = codes "-x" })
  pub empty_name : command_after (codes "--console=" ∷ []) ≡ Some (record defaults { console = [] })
  pub modules : command_after (codes "--modules" ∷ codes "m" ∷ []) ≡ Some (record defaults { modules = codes "m" })
  pub greatest_generate : command_after (codes "--generate" ∷ codes "10000" ∷ []) ≡ Some (record defaults { source = sources.Generated 10000 })
  pub no_generate : command_after (codes "--generate=00" ∷ []) ≡ Some defaults
  pub first_profile : command_after (codes "--profile" ∷ codes "1" ∷ []) ≡ Some defaults
  pub second_profile : command_after (codes "--profile" ∷ codes "2" ∷ []) ≡ Some (record defaults { profile = Two })
  pub first_board : command_after (codes "--board" ∷ codes "1" ∷ []) ≡ Some defaults
  pub second_board : command_after (codes "--board" ∷ codes "2" ∷ []) ≡ Some (record defaults { board = boards.Two })
  pub all_options : command_after (codes "--ticks=t" ∷ codes "--limit" ∷ codes "7" ∷ codes "--modules" ∷ codes "m" ∷ codes "--generate=1" ∷ codes "--profile=2" ∷ codes "--board=2" ∷ codes "--console" ∷ codes "c" ∷ [])
      ≡ Some (record { console = codes "c"; ticks = codes "t"; modules = codes "m"; limit = 7; source = sources.Generated 1; profile = Two; board = boards.Two })

-- words that are no command
pub record WrongWords : Type 0 where
  pub stray_word : command_after (codes "x" ∷ []) ≡ None
  pub stray_after_dashes : command_after (codes "--" ∷ codes "x" ∷ []) ≡ None
  pub unknown_option : command_after (codes "--lim" ∷ codes "5" ∷ []) ≡ None
  pub short_option : command_after (codes "-c" ∷ codes "x" ∷ []) ≡ None
  pub help : command_after (codes "--help" ∷ []) ≡ None
  pub help_after_a_limit : command_after (codes "--limit" ∷ codes "5" ∷ codes "--help" ∷ []) ≡ None
  pub version : command_after (codes "--version" ∷ []) ≡ None
  pub no_value : command_after (codes "--console" ∷ []) ≡ None
  pub dash_next : command_after (codes "--console" ∷ codes "-x" ∷ []) ≡ None
  pub option_next : command_after (codes "--console" ∷ codes "--limit" ∷ []) ≡ None
  pub console_twice : command_after (codes "--console" ∷ codes "a" ∷ codes "--console" ∷ codes "a" ∷ []) ≡ None
  pub limit_twice : command_after (codes "--limit" ∷ codes "5" ∷ codes "--limit=5" ∷ []) ≡ None
  pub negative_limit : command_after (codes "--limit" ∷ codes "-1" ∷ []) ≡ None
  pub negative_limit_after : command_after (codes "--limit=-1" ∷ []) ≡ None
  pub signed_limit : command_after (codes "--limit" ∷ codes "+1" ∷ []) ≡ None
  pub empty_limit : command_after (codes "--limit=" ∷ []) ≡ None
  pub hexadecimal_limit : command_after (codes "--limit" ∷ codes "0x10" ∷ []) ≡ None
  pub limit_of_14_digits : command_after (codes "--limit" ∷ codes "00000000000005" ∷ []) ≡ None
  pub limit_above_the_most : command_after (codes "--limit" ∷ codes "1000000000001" ∷ []) ≡ None
  pub generate_above_the_most : command_after (codes "--generate" ∷ codes "10001" ∷ []) ≡ None
  pub signed_generate : command_after (codes "--generate" ∷ codes "+1" ∷ []) ≡ None
  pub profile_zero : command_after (codes "--profile" ∷ codes "0" ∷ []) ≡ None
  pub profile_above_the_most : command_after (codes "--profile" ∷ codes "3" ∷ []) ≡ None
  pub board_zero : command_after (codes "--board" ∷ codes "0" ∷ []) ≡ None
  pub board_above_the_most : command_after (codes "--board" ∷ codes "3" ∷ []) ≡ None
  pub empty_board : command_after (codes "--board=" ∷ []) ≡ None
  pub empty_profile : command_after (codes "--profile=" ∷ []) ≡ None
  -- what the program plays if its arguments are not UTF-8
  pub no_text : command_after (codes "(arguments that are no text)" ∷ []) ≡ None
