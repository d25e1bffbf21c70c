-- What is around a live session, before and after it: its input, its folder of modules, its output, and the folder of its
-- record.
use Rattle.std.specs.Prelude.{ℕ, ◌≤◌, ◌⊎◌, List, Option}
use Rattle.wind_outside.specs.Counts.{Rose}
use Rattle.wind_outside.specs.Files.{Files}
use Rattle.wind_outside.specs.declared.folder.Folder.{Ghosts as FolderGhosts}
use Rattle.wind_outside.specs.declared.sink.Sink.{Ghosts as SinkGhosts}
use Rattle.wind_session.specs.Keeping.{Around, FolderFailed, Keeps, SinkFailed, around}
use Rattle.live_session.specs.declared.input.Input.{Ghosts as InputGhosts}
use Rattle.live_session.specs.declared.record_folder.RecordFolder.{Ghosts as RecordGhosts}

-- the bytes that are left of the input, the folder of modules with the output, and the files of the record's folder; with
-- their counts of faults
pub record LiveAround : Type 0 where
  pub input : Option (List ℕ)
  pub input_faults : ℕ
  pub session : Around
  pub records : Option Files
  pub record_faults : ℕ

abbrev pub live_around : {I F O D : Type 0} → InputGhosts I → FolderGhosts F → SinkGhosts O → RecordGhosts D → I → F → O → D → LiveAround
live_around input folder sink records i f o d = record {
  input = input.left i;
  input_faults = input.faults i;
  session = around folder sink f o;
  records = records.files d;
  record_faults = records.faults d;
}

-- the files of the record's folder, and the count of its faults
pub record Store : Type 0 where
  pub files : Option Files
  pub faults : ℕ

abbrev pub store : {D : Type 0} → RecordGhosts D → D → Store
store records d = record { files = records.files d; faults = records.faults d }

-- reading the input or a module failed
abbrev pub ReadFailed : LiveAround → LiveAround → Type 0
ReadFailed before after = Rose before.input_faults after.input_faults ⊎ FolderFailed before.session after.session

-- a put failed
abbrev pub WriteFailed : LiveAround → LiveAround → Type 0
WriteFailed before after = SinkFailed before.session after.session

-- a call of the record's folder failed
abbrev pub RecordFailed : LiveAround → LiveAround → Type 0
RecordFailed before after = Rose before.record_faults after.record_faults

-- the folder of modules is kept, and no count of faults falls
pub record KeepsLive (before after : LiveAround) : Type 0 where
  pub session : Keeps before.session after.session
  pub input : before.input_faults ≤ after.input_faults
  pub records : before.record_faults ≤ after.record_faults
