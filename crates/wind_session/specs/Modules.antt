-- What a folder says of the files that a run needs.
use Rattle.std.specs.Prelude.{◌≡◌, ℕ, ◌<◌, Bool, true, false, List, Option, Some}
use Rattle.std.specs.Str.{is_utf8}
use Rattle.wind_outside.specs.Files.{Files}
use Rattle.board_player.specs.LiveLoadingSaid.{FileSaid, Missing, said_by}
use Rattle.board_player.specs.WindMachineState.{State}
use Rattle.board_player.specs.WindMachineMachine.{file_asked}
use Rattle.board_player.specs.WindMachineRun.{Answers, after}
use Rattle.wind_session.specs.Paths.{path_in}
use Rattle.wind_session.specs.Plan.{IsEntry}

-- the folder of modules: its files, which it may leave untold, and the name that the arguments give it
pub record Shelf : Type 0 where
  pub files : Option Files
  pub name : List ℕ

-- the answer about a module is what the file at its path is; for a name that is not UTF-8 there is no file
abbrev pub IsSaidBy : Bool → Option Files → List ℕ → FileSaid → Type 0
IsSaidBy true files path said = (file : Option (List ℕ)) × IsEntry files path file × (said ≡ said_by file)
IsSaidBy false files path said = said ≡ Missing

abbrev pub IsSaidOf : Shelf → List ℕ → FileSaid → Type 0
IsSaidOf shelf name said = IsSaidBy (is_utf8 name) shelf.files (path_in shelf.name name) said

-- the same of the file that the next step needs, if it needs one
abbrev pub IsSaid : Shelf → State → FileSaid → Type 0
IsSaid shelf s said = (name : List ℕ) → file_asked s ≡ Some name → IsSaidOf shelf name said

-- and of the files that the first k steps need
abbrev pub AreSaid : Shelf → Answers → State → ℕ → Type 0
AreSaid shelf said s k = (j : ℕ) → j < k → IsSaid shelf (after said s j) (said j)
