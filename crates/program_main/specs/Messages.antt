-- How a text is put to a sink, piece by piece.
use Rattle.std.specs.Prelude.{◌≡◌, ◌≤◌, ℕ, List, Option}
use Rattle.wind_outside.specs.Appending.{Appended, AppendedPrefix}
use Rattle.wind_outside.specs.Counts.{Rose}
use Rattle.wind_outside.specs.declared.sink.Put.{Put}
use Rattle.wind_outside.specs.declared.sink.Put.TheVariants as puts

-- the whole text is added if the last put is done; a prefix of it, and the count of faults rises, if a put fails
pub record PutsText (text : List ℕ) (end : Put) (old new : Option (List ℕ)) (faults_old faults_new : ℕ) : Type 0 where
  pub done : end ≡ puts.Done → Appended old new text
  pub part : AppendedPrefix old new text
  pub failed : end ≡ puts.Failed → Rose faults_old faults_new
  pub never_falls : faults_old ≤ faults_new
