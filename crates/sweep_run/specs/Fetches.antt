-- What runs ask of the folder.
use Rattle.kept_files.specs.Fetching.{Asked}
use Rattle.kept_files.specs.Kept.{Grows, IsTrue, Kept}
use Rattle.wind_session.specs.Keeping.{KeepsFolder}
use Rattle.wind_session.specs.declared.ending.Status.{Status}
use Rattle.wind_session.specs.declared.ending.Status.TheVariants as status

-- the answers that were kept stay; what is kept is true of the files, if it was; and the folder's files stay, and its faults
-- don't fall
pub record Fetches (before after : Asked) (old new : Kept) : Type 0 where
  pub grows : Grows old new
  pub truth : IsTrue before.files old → IsTrue after.files new
  pub keeps : KeepsFolder before.files after.files before.faults after.faults

-- why a run was given up: memory ran out, or a read failed
abbrev pub IsGivenUp : Status → Type 0 → Type 0
IsGivenUp status.NoMemory rose = Unit {0}
IsGivenUp status.ReadFault rose = rose
IsGivenUp s rose = ⊥
