-- What follows from the definitions alone.
use Rattle.std.specs.Prelude.{◌≡◌, ◌==◌, ℕ, ◌<◌, List, Ok, Option}
use Rattle.std.specs.List.{list_any}
use Rattle.wind_core.specs.State.{IsKern}
use Rattle.kernel_world.specs.State.{WorldState}
use Rattle.board_reading.specs.WindMachinePhase.{Phase}
use Rattle.elf_read.specs.Contents.{module_at}
use Rattle.module_image.specs.Layout.{addresses}
use Rattle.module_image.specs.Needs.{needs_of}
use Rattle.module_image.specs.declared.segments.Places.{Places}
use Rattle.module_loader.specs.Loading.{LoaderState, file_verdict, record_of}
use Rattle.debug_view.specs.Modules.{sections_of}
use Rattle.debug_view.specs.Rows.{rows_of}
use Rattle.debug_view.specs.Threads.{is_told}
use Rattle.debug_view.specs.declared.ended.Ended.{Ended}

-- an accepted load of a file puts its sections at the addresses that are told of the record which the load adds
abbrev pub PlacesLaw : Type 0
PlacesLaw = (s : LoaderState) (name file : List ℕ) (mode : ℕ) (at : Places) → file_verdict s file mode ≡ Ok at
    → sections_of (record_of name (needs_of (module_at file)) at) file ≡ addresses (module_at file) at

-- a thread is in the list of threads exactly if its registers are told
abbrev pub ListedLaw : Type 0
ListedLaw = (phase : Phase) (w : WorldState) (ended : Option Ended) (thread : ℕ) → IsKern w.kern → 0 < thread
    → list_any (λ row. row.id == thread) (rows_of phase w ended) ≡ is_told w ended thread
