-- What is kept of a folder's files.
use Rattle.std.specs.Prelude.{◌≡◌, ℕ, List, Option, Some, None, IfSome, if◌then◌else◌}
use Rattle.std.specs.Option.{option_map}
use Rattle.std.specs.Str.{bytes_eq}
use Rattle.std.specs.BTreeMap.{get_by_text}
use Rattle.wind_outside.specs.Files.{Files}
use Rattle.wind_outside.specs.declared.folder.Fetched.{Fetched}
use Rattle.wind_outside.specs.declared.folder.Fetched.TheVariants as fetched
use Rattle.live_loading.specs.Said.{FileSaid, Held, Missing, TooLong, said_of, said_by as said_of_entry}
use Rattle.kept_files.specs.declared.kept.KeptFiles.{KeptFiles}

-- the kept answers, by the bytes of a file's name; none if nothing is kept of it
abbrev pub Kept : Type 0
Kept = List ℕ → Option FileSaid

abbrev pub kept_of : KeptFiles → Kept
kept_of k name = option_map said_of (get_by_text k.files name)

-- the kept answers, with one more
abbrev pub with_kept : Kept → List ℕ → FileSaid → Kept
with_kept kept name said other = if bytes_eq other name then Some said else kept other

-- the answer that a fetch gives; none if it failed or ran out of memory
abbrev pub said_by : Fetched → Option FileSaid
said_by (fetched.Found bytes) = Some (Held bytes.items)
said_by fetched.Missing = Some Missing
said_by fetched.TooLong = Some TooLong
said_by fetched.Failed = None
said_by fetched.NoMemory = None

-- a fetch with this answer adds it; without one, what is kept stays
abbrev pub Adds : List ℕ → Option FileSaid → Kept → Kept → Type 0
Adds name None old new = new ≡ old
Adds name (Some said) old new = (other : List ℕ) → new other ≡ with_kept old name said other

-- what was kept stays
abbrev pub Grows : Kept → Kept → Type 0
Grows old new = (path : List ℕ) → IfSome (old path) (λ said. new path ≡ Some said)

-- what is kept is true of the files, unless they are untold
abbrev pub IsTrue : Option Files → Kept → Type 0
IsTrue files kept = IfSome files (λ held. (path : List ℕ) → IfSome (kept path) (λ said. said ≡ said_of_entry (held path)))
