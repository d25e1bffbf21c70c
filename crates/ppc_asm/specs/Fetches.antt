-- Which file a call of ppcasm fetches, and how the call ends by how that fetch ended. A folder that doesn't log its
-- requests leaves this open.
use Rattle.std.specs.Prelude.{◌≡◌, ℕ, List, [], ◌∷◌, Option, Some, None}
use Rattle.wind_base.specs.Limits.{longest_text_file}
use Rattle.wind_outside.specs.Requests.{GrowsBy, Request}
use Rattle.wind_outside.specs.declared.folder.FetchOutcome.{FetchOutcome}
use Rattle.wind_outside.specs.declared.folder.FetchOutcome.TheVariants as outcomes
use Rattle.ppc_asm.specs.declared.status.AsmStatus.{AsmStatus}
use Rattle.ppc_asm.specs.declared.status.AsmStatus.TheVariants as status
use Rattle.ppc_asm.specs.Command.{to_assemble, to_list}

-- the first of the two that is there
abbrev pub or_else : Option (List ℕ) → Option (List ℕ) → Option (List ℕ)
or_else (Some name) other = Some name
or_else None other = other

-- the file that the arguments name
abbrev pub file_of : List (List ℕ) → Option (List ℕ)
file_of words = or_else (to_assemble words) (to_list words)

-- the request for a file with this name, of at most 1 MiB
abbrev pub file_request : List ℕ → FetchOutcome → Request
file_request name outcome = record { name = name; limit = longest_text_file; outcome = outcome }

-- a status of a call that has the bytes of its file
abbrev pub IsAfterFile : AsmStatus → Type 0
IsAfterFile status.Done = Unit {0}
IsAfterFile status.WriteFault = Unit {0}
IsAfterFile status.NoMemory = Unit {0}
IsAfterFile (status.BadSource line cause) = Unit {0}
IsAfterFile (status.BadObject error) = Unit {0}
IsAfterFile s = ⊥

-- the status that a fetch leads to
abbrev pub LeadsTo : FetchOutcome → AsmStatus → Type 0
LeadsTo outcomes.Found s = IsAfterFile s
LeadsTo outcomes.Missing s = s ≡ status.Absent
LeadsTo outcomes.TooLong s = s ≡ status.TooLong
LeadsTo outcomes.Failed s = s ≡ status.ReadFault
LeadsTo outcomes.NoMemory s = s ≡ status.NoMemory

-- the file with this name is fetched once, and nothing else
pub record FetchesOnce (name : List ℕ) (s : AsmStatus) (old new : Option (List Request)) : Type 0 where
  pub outcome : FetchOutcome
  pub requests : GrowsBy old new (file_request name outcome ∷ [])
  pub leads : LeadsTo outcome s

-- the requests of a call whose arguments name this file, or none
abbrev pub Fetches : Option (List ℕ) → AsmStatus → Option (List Request) → Option (List Request) → Type 0
Fetches (Some name) s old new = FetchesOnce name s old new
Fetches None s old new = new ≡ old
