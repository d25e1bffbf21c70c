-- The first fetch of a file, whose answer is kept.
use Rattle.std.specs.Prelude.{◌≡◌, ℕ, ◌≤◌, ◌↔◌, List, [], ◌∷◌, Option, Result, Err, IfSome, OnOk, OnErr}
use Rattle.wind_base.specs.Limits.{longest_module_file}
use Rattle.wind_outside.specs.Counts.{Rose}
use Rattle.wind_outside.specs.Files.{Files, IsFetchOf, IsWithin}
use Rattle.wind_outside.specs.Requests.{GrowsBy, Request, request_of}
use Rattle.wind_outside.specs.declared.folder.Fetched.{Fetched}
use Rattle.wind_outside.specs.declared.folder.Fetched.TheVariants as fetched
use Rattle.wind_outside.specs.declared.folder.Folder.{Ghosts}
use Rattle.kept_files.specs.Kept.{Adds, Kept, said_by}
use Rattle.kept_files.specs.declared.kept.Unkept.{Unkept}
use Rattle.kept_files.specs.declared.kept.Unkept.TheVariants as unkept

-- a folder that is asked for files: the files, the requests so far and the count of faults
pub record Asked : Type 0 where
  pub files : Option Files
  pub requests : Option (List Request)
  pub faults : ℕ

abbrev pub asked_of : {F : Type 0} → Ghosts F → F → Asked
asked_of folder f = record { files = folder.files f; requests = folder.requests f; faults = folder.faults f }

-- the file was fetched once, and the answer is kept; nothing is added after a read that failed, or if memory
-- ran out
pub record IsFirst {A : Type 0} (name : List ℕ) (before after : Asked) (old new : Kept) (result : Result A Unkept) : Type 0 where
  pub answer : Fetched
  pub files : after.files ≡ before.files
  pub true : IfSome before.files (λ held. IsFetchOf (held name) longest_module_file answer)
  pub within : IsWithin longest_module_file answer
  pub requested : GrowsBy before.requests after.requests (request_of name longest_module_file answer ∷ [])
  pub faults : before.faults ≤ after.faults
  pub rose : answer ≡ fetched.Failed → Rose before.faults after.faults
  pub failed : (result ≡ Err unkept.Failed) ↔ (answer ≡ fetched.Failed)
  pub kept : OnOk result (Adds name (said_by answer) old new)
  pub unkept : OnErr result (new ≡ old)
