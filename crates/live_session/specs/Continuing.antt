-- What a session takes over from the record from which it goes on.
use Rattle.std.specs.Prelude.{◌≡◌, ℕ, ◌≤◌, Bool, true, false, List, [], Option, Some, IfSome, length}
use Rattle.wind_base.specs.Limits.{longest_text_file, most_steps}
use Rattle.wind_outside.specs.Files.{Files}
use Rattle.live_session.specs.Command.{CommandState}
use Rattle.live_session.specs.Cutting.{IsCut}
use Rattle.live_session.specs.Saving.{command_path, command_text, console_path, ticks_path}
use Rattle.live_session.specs.declared.reading.NotContinued.{NotContinued}
use Rattle.live_session.specs.declared.reading.NotContinued.TheVariants as reasons
use Rattle.live_session.specs.declared.reading.RecordFile.{RecordFile}
use Rattle.live_session.specs.declared.reading.RecordFile.TheVariants as parts
use Rattle.live_session.specs.declared.saving.Unsaved.{Unsaved}
use Rattle.live_session.specs.declared.saving.Unsaved.TheVariants as failures

-- a console file, a tick file, and the most steps of their replay
pub record Kept : Type 0 where
  pub console : List ℕ
  pub ticks : List ℕ
  pub limit : ℕ

-- the files of a command's record, from which a session takes this over: its words with a limit, and what a crash has left
-- whole of the other two
pub record IsTakenFrom (c : CommandState) (kept : Kept) (held : Files) : Type 0 where
  pub console : List ℕ
  pub ticks : List ℕ
  pub console_is : held (console_path c.record_folder) ≡ Some console
  pub ticks_is : held (ticks_path c.record_folder) ≡ Some ticks
  pub command_is : held (command_path c.record_folder) ≡ Some (command_text c kept.limit)
  pub short : (length console ≤ longest_text_file) × (length ticks ≤ longest_text_file)
  pub few : kept.limit ≤ most_steps
  pub cut : IsCut console ticks kept.console kept.ticks

-- the texts of a new session
abbrev pub nothing : Kept
nothing = record { console = []; ticks = []; limit = 0 }

-- what a session takes over: nothing if it is new, and otherwise the record that is there
abbrev pub TakesOver : Bool → CommandState → Kept → Option Files → Type 0
TakesOver false c kept files = kept ≡ nothing
TakesOver true c kept files = IfSome files (IsTakenFrom c kept)

-- the path of a file of a record
abbrev pub file_path : List ℕ → RecordFile → List ℕ
file_path folder parts.Console = console_path folder
file_path folder parts.Ticks = ticks_path folder
file_path folder parts.Command = command_path folder

-- this file of a command's record has these bytes
abbrev pub Has : CommandState → Option Files → RecordFile → List ℕ → Type 0
Has c files file bytes = IfSome files (λ held. held (file_path c.record_folder file) ≡ Some bytes)

-- the files of a command's record are none from which a session can go on
abbrev pub IsForeign : CommandState → Files → Type 0
IsForeign c held = (kept : Kept) → IsTakenFrom c kept held → ⊥

-- why a session doesn't go on: its files are none that a session left, reading failed, or memory ran out
abbrev pub IsReasonFor : CommandState → Option Files → NotContinued → Type 0
IsReasonFor c files (reasons.Foreign file) = IfSome files (IsForeign c)
IsReasonFor c files reasons.Failed = Unit {0}
IsReasonFor c files reasons.NoMemory = Unit {0}

-- what becomes of its record
abbrev pub unsaved_for : NotContinued → Unsaved
unsaved_for (reasons.Foreign file) = failures.Failed
unsaved_for reasons.Failed = failures.Failed
unsaved_for reasons.NoMemory = failures.NoMemory
