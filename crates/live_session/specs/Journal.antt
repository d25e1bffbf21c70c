-- The files of a record at every moment of a session: what was shown is a prefix of what a replay of them writes.
use Rattle.std.specs.Prelude.{◌≡◌, ◌≢◌, ◌⊎◌, ℕ, ◌≤◌, List, [], ◌∷◌, ◌++◌, Option, None, Some, IfSome}
use Rattle.wind_base.specs.Limits.{most_steps}
use Rattle.wind_outside.specs.Appending.{Appended}
use Rattle.wind_outside.specs.Counts.{Rose}
use Rattle.wind_outside.specs.Files.{Files}
use Rattle.tick_file.specs.Schedule.{timetable_of}
use Rattle.wind_machine.specs.State.{State}
use Rattle.wind_machine.specs.Extending.{Setup, booted}
use Rattle.wind_machine.specs.Run.{Answers, IsPart, text}
use Rattle.wind_session.specs.Keeping.{Around}
use Rattle.wind_session.specs.Modules.{AreSaid, Shelf}
use Rattle.wind_session.specs.Plan.{Start, plan_of}
use Rattle.wind_session.specs.declared.run.RunEnd.{RunEnd}
use Rattle.live_session.specs.Command.{CommandState}
use Rattle.live_session.specs.Ending.{IsGoing}
use Rattle.live_session.specs.Folder.{Replaced}
use Rattle.live_session.specs.LiveAround.{Store}
use Rattle.live_session.specs.Moments.{Wherever}
use Rattle.live_session.specs.Saving.{IsReplayText, WritesOnly, command_path, command_text, console_path, ticks_path}
use Rattle.live_session.specs.Seen.{LiveState}
use Rattle.live_session.specs.declared.saving.Unsaved.{Unsaved}
use Rattle.live_session.specs.declared.saving.Unsaved.TheVariants as failures

-- ---- a replay of the files
-- the files of a record are this console file, this tick file, and the words with this limit
pub record Holds (c : CommandState) (console ticks : List ℕ) (limit : ℕ) (held : Files) : Type 0 where
  pub console_is : held (console_path c.record_folder) ≡ Some console
  pub ticks_is : held (ticks_path c.record_folder) ≡ Some ticks
  pub command_is : held (command_path c.record_folder) ≡ Some (command_text c limit)

-- what was shown in between is a prefix of this text
pub record IsPrefixShown (old now : Option (List ℕ)) (whole : List ℕ) : Type 0 where
  pub shown : List ℕ
  pub rest : List ℕ
  pub whole_is : whole ≡ shown ++ rest
  pub gained : Appended old now shown

-- what was shown is a prefix of what the first steps of a run from this state write, at most as many as its limit
pub record IsReplay (shelf : Shelf) (start : State) (limit : ℕ) (old now : Option (List ℕ)) : Type 0 where
  pub said : Answers
  pub count : ℕ
  pub part : IsPart said start limit count
  pub answers : AreSaid shelf said start count
  pub prefix : IsPrefixShown old now (text said start count)

-- windplay takes these files for a run, and what was shown is a prefix of what it writes; files that are untold leave
-- open which they are
pub record IsReplayed (c : CommandState) (shelf : Shelf) (setup : Setup) (old : Option (List ℕ)) (files : Option Files) (now : Option (List ℕ)) : Type 0 where
  pub console : List ℕ
  pub ticks : List ℕ
  pub limit : ℕ
  pub held : IfSome files (Holds c console ticks limit)
  pub words : IsReplayText c limit
  pub planned : plan_of (Some console) (Some ticks) ≡ Start console (timetable_of ticks)
  pub replay : IsReplay shelf (booted setup console (timetable_of ticks)) limit old now

-- ---- every moment
-- a scene: the files, and what has been shown
pub record Scene : Type 0 where
  pub files : Option Files
  pub shown : Option (List ℕ)

abbrev pub scene : Option Files → Option (List ℕ) → Scene
scene files shown = record { files = files; shown = shown }

-- one scene follows another: no file was written, or one was, and nothing was shown
abbrev pub Follows : Scene → Scene → Type 0
Follows a b = (b.files ≡ a.files) ⊎ ((b.shown ≡ a.shown) × ((name : List ℕ) × (bytes : List ℕ) × Replaced a.files b.files name bytes))

-- from one scene to another through these scenes, of each of which this holds
abbrev pub Passes : (Scene → Type 0) → Scene → List Scene → Scene → Type 0
Passes Holding a [] b = b ≡ a
Passes Holding a (x ∷ xs) b = Follows a x × Holding x × Passes Holding x xs b

-- from one scene to another nothing that was shown is lost
abbrev pub IsAlwaysReplayed : CommandState → Shelf → Setup → Option (List ℕ) → Scene → Scene → Type 0
IsAlwaysReplayed c shelf setup old a b = (xs : List Scene) × Passes (λ x. IsReplayed c shelf setup old x.files x.shown) a xs b

-- ---- what a part of a session does to the files
-- the files hold all that was sent, with a limit at which a replay has made all steps
pub record IsCurrent (c : CommandState) (l : LiveState) (files : Option Files) : Type 0 where
  pub limit : ℕ
  pub within : l.board.steps ≤ limit
  pub few : limit ≤ most_steps
  pub held : IfSome files (Holds c l.console.bytes l.ticks.bytes limit)

-- only the record was written, and no scene lost what was shown. A write that failed is the last, and has a cause
pub record Journaled (c : CommandState) (failure : Option Unsaved) (end : RunEnd) (l : LiveState) (a : Around) (before : Store) (m : LiveState) (b : Around) (after : Store) : Type 0 where
  pub writes : WritesOnly c.record_folder before.files after.files
  pub faults : before.faults ≤ after.faults
  pub failed : failure ≡ Some failures.Failed → Rose before.faults after.faults
  pub stuck : failure ≢ None → (c.record_folder ≢ []) × IsGoing end
  pub current : c.record_folder ≢ [] → IsCurrent c l before.files → failure ≡ None → IsCurrent c m after.files
  pub always : c.record_folder ≢ [] → IsCurrent c l before.files → Wherever c.modules l a
      (λ shelf setup old. IsAlwaysReplayed c shelf setup old.bytes (scene before.files a.logged.bytes) (scene after.files b.logged.bytes))
