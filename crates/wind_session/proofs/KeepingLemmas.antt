-- What a folder and a sink keep.
use Rattle.std.proofs.Common.{◌∙◌, ℕ, Option, refl, arith}
use Rattle.wind_outside.specs.Files.{Files}
use Rattle.wind_outside.specs.declared.folder.Folder.{Ghosts as FolderGhosts}
use Rattle.wind_outside.specs.declared.sink.Sink.{Ghosts as SinkGhosts}
use Rattle.wind_session.specs.Keeping.{Around, Keeps, KeepsFiles, KeepsFolder, around}

pub folder_same : (files : Option Files) (faults : ℕ) → KeepsFolder files files faults faults
folder_same files faults = (refl, omega arith)

pub folder_both : (a b c : Option Files) (k m n : ℕ) → KeepsFolder a b k m → KeepsFolder b c m n → KeepsFolder a c k n
folder_both a b c k m n first second = (second.0 ∙ first.0, omega (arith, first.1, second.1))

pub keeps_same : (now : Around) → Keeps now now
keeps_same now = (folder_same now.files now.folder_faults, omega arith)

pub keeps_both : (a b c : Around) → Keeps a b → Keeps b c → Keeps a c
keeps_both a b c first second =
    (folder_both a.files b.files c.files a.folder_faults b.folder_faults c.folder_faults first.0 second.0, omega (arith, first.1, second.1))

module _ {F O : Type 0} (folder : FolderGhosts F) (sink : SinkGhosts O) where
  pub files_same : (f : F) (o : O) → KeepsFiles folder sink f o f o
  files_same f o = keeps_same (around folder sink f o)

  pub files_both : (f g h : F) (o p q : O) → KeepsFiles folder sink f o g p → KeepsFiles folder sink g p h q → KeepsFiles folder sink f o h q
  files_both f g h o p q = keeps_both (around folder sink f o) (around folder sink g p) (around folder sink h q)
