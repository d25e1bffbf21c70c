-- A folder's results for a real file.
use Rattle.std.specs.Prelude.{◌≡◌, ℕ, ◌<◌, List, Option, Some, None, Result, Ok, Err, Vec, length}
use Rattle.std.specs.Option.{MatchOption}
use Rattle.std.specs.IoError.{error_kind}
use Rattle.std.specs.declared.alloc.Global.{Global}
use Rattle.std.specs.declared.io.Error.{Error}
use Rattle.std.specs.declared.io.ErrorKind.{ErrorKind}
use Rattle.std.specs.declared.io.ErrorKind.TheVariants as kinds
use Rattle.wind_outside.specs.declared.folder.Fetched.{Fetched}
use Rattle.wind_outside.specs.declared.folder.Fetched.TheVariants as fetched

-- what is found is all that was left; if nothing is found, more than the limit was left
abbrev pub IsWhole : ℕ → List ℕ → Option (Vec ℕ Global) → Type 0
IsWhole limit left found = MatchOption found (limit < length left) (λ bytes. bytes.items ≡ left)

-- the result for an error, by its kind: no such file, out of memory, or a fault
abbrev pub error_answer : ErrorKind → Fetched
error_answer kinds.NotFound = fetched.Missing
error_answer kinds.NotADirectory = fetched.Missing
error_answer kinds.OutOfMemory = fetched.NoMemory
error_answer _ = fetched.Failed

-- the result for a read that gave bytes, gave too many, or failed
abbrev pub answer_of : Result (Option (Vec ℕ Global)) Error → Fetched
answer_of (Ok (Some bytes)) = fetched.Found bytes
answer_of (Ok None) = fetched.TooLong
answer_of (Err error) = error_answer (error_kind error)
