-- What is around a session, before and after it: its folder and its sinks.
use Rattle.std.specs.Prelude.{◌≡◌, ℕ, ◌≤◌, List, Option}
use Rattle.wind_outside.specs.Counts.{Rose}
use Rattle.wind_outside.specs.Files.{Files}
use Rattle.wind_outside.specs.declared.folder.Folder.{Ghosts as FolderGhosts}
use Rattle.wind_outside.specs.declared.sink.Sink.{Ghosts as SinkGhosts}
use Rattle.wind_session.specs.Outside.{Outside, outside}

-- from one moment to a later one, a folder keeps its files, and its count of faults doesn't fall
abbrev pub KeepsFolder : Option Files → Option Files → ℕ → ℕ → Type 0
KeepsFolder old new before after = (new ≡ old) × (before ≤ after)

-- the folder's files, the counts of both their faults, and what they log
pub record Around : Type 0 where
  pub files : Option Files
  pub folder_faults : ℕ
  pub sink_faults : ℕ
  pub logged : Outside

abbrev pub around : {F O : Type 0} → FolderGhosts F → SinkGhosts O → F → O → Around
around folder sink f o = record {
  files = folder.files f;
  folder_faults = folder.faults f;
  sink_faults = sink.faults o;
  logged = outside (folder.requests f) (sink.bytes o) (sink.pieces o);
}

-- a fetch failed, and a put
abbrev pub FolderFailed : Around → Around → Type 0
FolderFailed before after = Rose before.folder_faults after.folder_faults

abbrev pub SinkFailed : Around → Around → Type 0
SinkFailed before after = Rose before.sink_faults after.sink_faults

-- the sink of the messages: its bytes, and its count of faults
pub record Messages : Type 0 where
  pub bytes : Option (List ℕ)
  pub faults : ℕ

abbrev pub messages : {E : Type 0} → SinkGhosts E → E → Messages
messages sink e = record { bytes = sink.bytes e; faults = sink.faults e }

-- the folder is kept, and the sink's count of faults doesn't fall either
abbrev pub Keeps : Around → Around → Type 0
Keeps before after = KeepsFolder before.files after.files before.folder_faults after.folder_faults × (before.sink_faults ≤ after.sink_faults)

abbrev pub KeepsFiles : {F O : Type 0} → FolderGhosts F → SinkGhosts O → F → O → F → O → Type 0
KeepsFiles folder sink f o g p = Keeps (around folder sink f o) (around folder sink g p)
