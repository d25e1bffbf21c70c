-- The files of a folder, and the results of fetches.
use Rattle.std.specs.Prelude.{◌≡◌, ℕ, ◌<◌, ◌≤◌, List, Option, Some, None, IsSomeAnd, length, Bool, true, false, if◌then◌else◌}
use Rattle.std.specs.Str.{bytes_eq}
use Rattle.wind_outside.specs.declared.folder.Fetched.{Fetched}
use Rattle.wind_outside.specs.declared.folder.Fetched.TheVariants as fetched

-- the bytes of each file, by the bytes of its name; none if there is no such file
abbrev pub Files : Type 0
Files = List ℕ → Option (List ℕ)

-- the files with one more, or with one replaced
abbrev pub with_file : Files → List ℕ → List ℕ → Files
with_file files name bytes other = if bytes_eq other name then Some bytes else files other

-- a fetch that doesn't fail or run out of memory gives what the file with that name says
abbrev pub IsFetchOf : Option (List ℕ) → ℕ → Fetched → Type 0
IsFetchOf file limit (fetched.Found bytes) = (file ≡ Some bytes.items) × (length bytes.items ≤ limit)
IsFetchOf file limit fetched.Missing = file ≡ None
IsFetchOf file limit fetched.TooLong = IsSomeAnd file (λ bytes. limit < length bytes)
IsFetchOf file limit fetched.Failed = Unit {0}
IsFetchOf file limit fetched.NoMemory = Unit {0}

-- a found file has at most the given number of bytes, even if the files are untold
abbrev pub IsWithin : ℕ → Fetched → Type 0
IsWithin limit (fetched.Found bytes) = length bytes.items ≤ limit
IsWithin limit _ = Unit {0}

-- whether a fetch failed
abbrev pub is_failed : Fetched → Bool
is_failed fetched.Failed = true
is_failed _ = false
