-- The files of a record.
use Rattle.std.specs.Prelude.{◌≡◌, ◌≢◌, ◌⊎◌, ℕ, ◌+◌, Bool, true, false, ◌&&◌, nat_lt, if◌then◌else◌, List, [], ◌∷◌, ◌++◌, Option, Some, None, IsSome, IfSome, IsSomeAnd, codes}
use Rattle.std.specs.Fmt.{decimal}
use Rattle.wind_base.specs.Limits.{most_steps}
use Rattle.wind_base.specs.declared.board_kind.BoardKind.{BoardKind}
use Rattle.wind_base.specs.declared.board_kind.BoardKind.TheVariants as boards
use Rattle.wind_base.specs.declared.profile.Profile.{Profile}
use Rattle.wind_base.specs.declared.profile.Profile.TheVariants as profiles
use Rattle.wind_outside.specs.Files.{Files}
use Rattle.wind_session.specs.Command.{CommandState as SessionCommand, command_of as session_command}
use Rattle.wind_session.specs.Paths.{path_in}
use Rattle.wind_session.specs.declared.command.Source.TheVariants as sources
use Rattle.live_session.specs.Command.{CommandState}
use Rattle.live_session.specs.Folder.{Lengthened, Replaced, SetAside, aside_path}

-- the paths of the three files of a record in a folder
abbrev pub console_path : List ℕ → List ℕ
console_path folder = path_in folder (codes "console.txt")

abbrev pub ticks_path : List ℕ → List ℕ
ticks_path folder = path_in folder (codes "ticks.txt")

abbrev pub command_path : List ℕ → List ℕ
command_path folder = path_in folder (codes "command.txt")

pub record ArePaths (folder console ticks command : List ℕ) : Type 0 where
  pub console_is : console ≡ console_path folder
  pub ticks_is : ticks ≡ ticks_path folder
  pub command_is : command ≡ command_path folder

-- none of the three files is in the folder, or one of them is; a folder of files that are untold leaves this open
pub record AreAbsent (folder : List ℕ) (held : Files) : Type 0 where
  pub no_console : held (console_path folder) ≡ None
  pub no_ticks : held (ticks_path folder) ≡ None
  pub no_command : held (command_path folder) ≡ None

abbrev pub IsFree : List ℕ → Option Files → Type 0
IsFree folder files = IfSome files (AreAbsent folder)

abbrev pub IsTaken : List ℕ → Option Files → Type 0
IsTaken folder files = IfSome files (λ held. IsSome (held (console_path folder)) ⊎ (IsSome (held (ticks_path folder)) ⊎ IsSome (held (command_path folder))))

-- a file is none of the three
pub record IsOther (folder name : List ℕ) : Type 0 where
  pub no_console : name ≢ console_path folder
  pub no_ticks : name ≢ ticks_path folder
  pub no_command : name ≢ command_path folder

-- no file with such a name has changed; what is untold stays untold
abbrev pub KeepsThose : (List ℕ → Type 0) → Option Files → Option Files → Type 0
KeepsThose Spared None new = new ≡ None
KeepsThose Spared (Some old) new = IsSomeAnd new (λ held. (name : List ℕ) → Spared name → held name ≡ old name)

-- no file but the three has changed
abbrev pub KeepsOthers : List ℕ → Option Files → Option Files → Type 0
KeepsOthers folder = KeepsThose (IsOther folder)

-- only a record in this folder may have been written, and nothing if the folder's name is empty
pub record WritesOnly (folder : List ℕ) (old new : Option Files) : Type 0 where
  pub nothing : folder ≡ [] → new ≡ old
  pub others : KeepsOthers folder old new

-- a file is none of the three that were set aside
pub record IsNotAside (folder name : List ℕ) : Type 0 where
  pub no_console : name ≢ aside_path (console_path folder)
  pub no_ticks : name ≢ aside_path (ticks_path folder)
  pub no_command : name ≢ aside_path (command_path folder)

-- a file that a session of this command doesn't write: it is none of the record's, and with `--force` none set aside
abbrev pub IsSpared : CommandState → List ℕ → Type 0
IsSpared c name = IsOther c.record_folder name × (c.force ≡ true → IsNotAside c.record_folder name)

-- only the record of this command may have been written, and older files set aside; nothing if it asks for no record
pub record WritesFor (c : CommandState) (old new : Option Files) : Type 0 where
  pub nothing : c.record_folder ≡ [] → new ≡ old
  pub others : KeepsThose (IsSpared c) old new

-- the three files of an older record were set aside, the words first
pub record AreSetAside (folder : List ℕ) (old new : Option Files) : Type 0 where
  pub without_command : Option Files
  pub without_ticks : Option Files
  pub first : SetAside old without_command (command_path folder)
  pub second : SetAside without_command without_ticks (ticks_path folder)
  pub last : SetAside without_ticks new (console_path folder)

-- with `--force` the files of an older record were set aside; otherwise nothing has changed
abbrev pub MakesRoom : Bool → List ℕ → Option Files → Option Files → Type 0
MakesRoom true folder old new = AreSetAside folder old new
MakesRoom false folder old new = new ≡ old

-- the limit with which a replay ends as a session of these steps did: one step more if its run is over
abbrev pub replay_limit : ℕ → Bool → ℕ
replay_limit steps is_over = if is_over && nat_lt steps most_steps then steps + 1 else steps

abbrev pub profile_digit : Profile → List ℕ
profile_digit profiles.One = codes "1"
profile_digit profiles.Two = codes "2"

abbrev pub board_digit : BoardKind → List ℕ
board_digit boards.One = codes "1"
board_digit boards.Two = codes "2"

-- a word, with the end of its line
abbrev pub word_line : List ℕ → List ℕ → List ℕ
word_line option value = option ++ (value ++ 10 ∷ [])

-- the words with which windplay replays the record of a command, one in each line. The files are those beside them
abbrev pub command_text : CommandState → ℕ → List ℕ
command_text c limit =
    word_line (codes "--console=") (codes "console.txt")
    ++ (word_line (codes "--ticks=") (codes "ticks.txt")
    ++ (word_line (codes "--modules=") (codes "modules")
    ++ (word_line (codes "--profile=") (profile_digit c.profile)
    ++ (word_line (codes "--board=") (board_digit c.board)
    ++ word_line (codes "--limit=") (decimal limit)))))

-- the same words, and their text
abbrev pub command_words : CommandState → ℕ → List (List ℕ)
command_words c limit =
    (codes "--console=" ++ codes "console.txt")
    ∷ (codes "--ticks=" ++ codes "ticks.txt")
    ∷ (codes "--modules=" ++ codes "modules")
    ∷ (codes "--profile=" ++ profile_digit c.profile)
    ∷ (codes "--board=" ++ board_digit c.board)
    ∷ (codes "--limit=" ++ decimal limit)
    ∷ []

abbrev pub word_lines : List (List ℕ) → List ℕ
word_lines [] = []
word_lines (word ∷ words) = word ++ 10 ∷ word_lines words

-- windplay's command for the replay: the two files, the copies of the modules, the same board, and this limit
abbrev pub replay_of : CommandState → ℕ → SessionCommand
replay_of c limit = record {
  console = codes "console.txt";
  ticks = codes "ticks.txt";
  modules = codes "modules";
  limit = limit;
  source = sources.Files;
  profile = c.profile;
  board = c.board;
}

-- the text has one word in each line, and windplay takes the words for the replay
pub record IsReplayText (c : CommandState) (limit : ℕ) : Type 0 where
  pub lines : command_text c limit ≡ word_lines (command_words c limit)
  pub command : session_command (codes "windplay" ∷ command_words c limit) ≡ Some (replay_of c limit)

-- the three files of a command's record were written, the words last, and no other
pub record IsSaved (c : CommandState) (console ticks : List ℕ) (limit : ℕ) (old new : Option Files) : Type 0 where
  pub with_console : Option Files
  pub with_ticks : Option Files
  pub first : Replaced old with_console (console_path c.record_folder) console
  pub second : Replaced with_console with_ticks (ticks_path c.record_folder) ticks
  pub last : Replaced with_ticks new (command_path c.record_folder) (command_text c limit)

-- or the writing stopped after some of them
abbrev pub IsSavedInPart : CommandState → List ℕ → List ℕ → ℕ → Option Files → Option Files → Type 0
IsSavedInPart c console ticks limit old new =
    (new ≡ old)
    ⊎ ((with_console : Option Files) × Replaced old with_console (console_path c.record_folder) console
    × ((new ≡ with_console)
    ⊎ ((with_ticks : Option Files) × Replaced with_console with_ticks (ticks_path c.record_folder) ticks
    × ((new ≡ with_ticks)
    ⊎ Replaced with_ticks new (command_path c.record_folder) (command_text c limit)))))

-- a record was opened: there was room for it, or room was made, and its three files were written
pub record IsOpened (c : CommandState) (console ticks : List ℕ) (limit : ℕ) (old new : Option Files) : Type 0 where
  pub cleared : Option Files
  pub room : MakesRoom c.force c.record_folder old cleared
  pub saved : IsSaved c console ticks limit cleared new

-- the line of an event was added to the tick file, and then its bytes to the console file
pub record IsAdded (folder line bytes : List ℕ) (old new : Option Files) : Type 0 where
  pub with_line : Option Files
  pub first : Lengthened old with_line (ticks_path folder) line
  pub last : Lengthened with_line new (console_path folder) bytes
