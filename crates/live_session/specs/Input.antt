-- The parts of an input.
use Rattle.std.specs.Prelude.{◌≡◌, ◌≢◌, ℕ, ◌-◌, ◌<◌, ◌≤◌, List, [], ◌++◌, Option, Some, None, IfSome, IsSomeAnd, length, slice_index}
use Rattle.std.specs.Io.{StopsAt}
use Rattle.wind_base.specs.Limits.{longest_chunk}
use Rattle.live_session.specs.declared.input.InputPart.{InputPart}
use Rattle.live_session.specs.declared.input.InputPart.TheVariants as parts

-- these bytes are taken from the beginning of what was left; what is untold stays untold
abbrev pub Takes : Option (List ℕ) → Option (List ℕ) → List ℕ → Type 0
Takes None new bytes = new ≡ None
Takes (Some old) new bytes = IsSomeAnd new (λ rest. old ≡ bytes ++ rest)

-- a part of the input has 1 to 4096 bytes of one line: only the last may be 0x0A
pub record IsPart (bytes : List ℕ) : Type 0 where
  pub some : 1 ≤ length bytes
  pub few : length bytes ≤ longest_chunk
  pub one_line : StopsAt bytes 10

-- and is as long as it can be: it has 4096 bytes, or ends a line, or nothing is left after it
abbrev pub IsLongest : List ℕ → Option (List ℕ) → Type 0
IsLongest bytes rest = length bytes < longest_chunk → slice_index bytes (length bytes - 1) ≢ 10 → IfSome rest (λ left. left ≡ [])

-- what a call gives: bytes, or the end if none is left; otherwise nothing is taken
abbrev pub Gives : Option (List ℕ) → Option (List ℕ) → InputPart → Type 0
Gives old new (parts.Bytes bytes) = Takes old new bytes.items × IsPart bytes.items × IsLongest bytes.items new
Gives old new parts.End = (new ≡ old) × IfSome old (λ left. left ≡ [])
Gives old new parts.Failed = new ≡ old
Gives old new parts.NoMemory = new ≡ old
