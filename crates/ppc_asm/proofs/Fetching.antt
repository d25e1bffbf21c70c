-- The request of a call.
use Rattle.std.proofs.Common.{ℕ, List, [], ◌∷◌, Option}
use Rattle.wind_outside.specs.Requests.{GrowsBy, Request}
use Rattle.wind_outside.specs.declared.folder.FetchOutcome.TheVariants as outcomes
use Rattle.ppc_asm.specs.declared.status.AsmStatus.{AsmStatus}
use Rattle.ppc_asm.specs.Fetches.{FetchesOnce, IsAfterFile, file_request}

-- a file that was found, and what the call did with its bytes
pub fetched_once : (name : List ℕ) (s : AsmStatus) (old new : Option (List Request)) → GrowsBy old new (file_request name outcomes.Found ∷ []) → IsAfterFile s
    → FetchesOnce name s old new
fetched_once name s old new requests after = record { outcome = outcomes.Found; requests = requests; leads = after }
