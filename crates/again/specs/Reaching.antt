-- What is known of a run while its module files are fetched.
use Rattle.std.specs.Prelude.{◌≡◌, ℕ, ◌+◌, ◌≤◌, Bool, true, false, List, [], ◌++◌, Option, Some, None}
use Rattle.std.specs.Str.{is_utf8}
use Rattle.kept_files.specs.Kept.{Kept}
use Rattle.board_player.specs.LiveLoadingSaid.{FileSaid, Missing}
use Rattle.board_player.specs.WindMachineState.{State}
use Rattle.wind_session.specs.Paths.{path_in}
use Rattle.again.specs.Libraries.{Library, Reaches}
use Rattle.again.specs.declared.going.Going.{Going}
use Rattle.again.specs.declared.going.Going.TheVariants as goings

-- the answer about a module is the one kept of its file, if one is kept; a name that isn't UTF-8 names no file
abbrev pub IsKept : Bool → Option FileSaid → FileSaid → Type 0
IsKept true None said = Unit {0}
IsKept true (Some kept) said = said ≡ kept
IsKept false kept said = said ≡ Missing

-- a library gives the answers that are kept, of the files in this folder of modules
abbrev pub Agrees : List ℕ → Kept → Library → Type 0
Agrees modules kept library = (name : List ℕ) → IsKept (is_utf8 name) (kept (path_in modules name)) (library name)

-- k steps lead from the start to this state and wrote this, whatever the answers will be about files that aren't
-- fetched yet
abbrev pub IsAt : List ℕ → Kept → State → ℕ → State → List ℕ → Type 0
IsAt modules kept start k s written = (library : Library) → Agrees modules kept library → Reaches library start k s written

-- n steps more were made of each such run and wrote this, and more answers may be kept
abbrev pub GoesOn : List ℕ → Kept → Kept → ℕ → State → State → List ℕ → Type 0
GoesOn modules old new n s t more = (start : State) (k : ℕ) (written : List ℕ) → IsAt modules old start k s written
    → IsAt modules new start (k + n) t (written ++ more)

-- and it was at most this many, by the board's own count
pub record GoesBy (modules : List ℕ) (old new : Kept) (most : ℕ) (s t : State) (more : List ℕ) : Type 0 where
  pub n : ℕ
  pub within : n ≤ most
  pub counted : t.steps ≡ s.steps + n
  pub made : GoesOn modules old new n s t more

-- what steps wrote that led to this state: only the last of them may have written
abbrev pub written_by : Going → State → List ℕ
written_by goings.Made t = []
written_by goings.Wrote t = t.world.output
written_by (goings.Ended end) t = []
