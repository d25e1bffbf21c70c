-- Which files a call of windlink fetches, in which order, and how the call ends by how the last fetch ended. A folder
-- that doesn't log its requests leaves all of this open.
use Rattle.std.specs.Prelude.{◌≡◌, ◌⊎◌, ℕ, ◌+◌, List, [], ◌∷◌, ◌++◌, length, map, Option, Some, None, Result, Ok, Err}
use Rattle.wind_base.specs.Limits.{longest_module_file, longest_text_file}
use Rattle.wind_outside.specs.Files.{Files}
use Rattle.wind_outside.specs.Requests.{GrowsBy, Request}
use Rattle.wind_outside.specs.declared.folder.FetchOutcome.{FetchOutcome}
use Rattle.wind_outside.specs.declared.folder.FetchOutcome.TheVariants as outcomes
use Rattle.wind_link.specs.declared.status.LinkStatus.{LinkStatus}
use Rattle.wind_link.specs.declared.status.LinkStatus.TheVariants as status
use Rattle.wind_link.specs.Command.{HasBytes, path_of}
use Rattle.wind_link.specs.Lists.{Row, rows_of}

-- ---- requests
-- the request for the file with this name, at most so long
abbrev pub file_request : ℕ → List ℕ → FetchOutcome → Request
file_request most name outcome = record { name = name; limit = most; outcome = outcome }

-- the request for the list, of at most 1 MiB
abbrev pub list_request : List ℕ → FetchOutcome → Request
list_request name outcome = file_request longest_text_file name outcome

-- the request for the module at this path, of at most 4 MiB
abbrev pub module_request : List ℕ → FetchOutcome → Request
module_request path outcome = file_request longest_module_file path outcome

-- the requests for the modules of these rows, in order, all found
abbrev pub found_modules : List ℕ → List Row → List Request
found_modules dir rs = map (λ r. module_request (path_of dir r.name) outcomes.Found) rs

-- ---- the last one
-- how a call ends that doesn't find the file that line n names; n is 0 for the list
abbrev pub Unfound : ℕ → FetchOutcome → LinkStatus → Type 0
Unfound n outcomes.Found s = ⊥
Unfound n outcomes.Missing s = s ≡ status.Absent n
Unfound n outcomes.TooLong s = s ≡ status.TooLong n
Unfound n outcomes.Failed s = s ≡ status.ReadFault
Unfound n outcomes.NoMemory s = s ≡ status.NoMemory

-- how a call ends after it found the modules of n rows, with these rows left: all modules are there, the last one that
-- was found is refused, or memory ran out
abbrev pub StopsAt : ℕ → List Row → LinkStatus → Type 0
StopsAt n rest status.Done = rest ≡ []
StopsAt n rest status.WriteFault = rest ≡ []
StopsAt n rest (status.BadReloc line number error) = rest ≡ []
StopsAt n rest (status.BadObject line error) = line ≡ n
StopsAt n rest (status.BadPlace line kind) = line ≡ n
StopsAt n rest status.NoMemory = Unit {0}
StopsAt n rest s = ⊥

-- the requests after those for the modules of n rows: none, or one for the next row, whose file isn't found
abbrev pub LastFetch : List ℕ → ℕ → List Row → LinkStatus → List Request → Type 0
LastFetch dir n [] s last = (last ≡ []) × StopsAt n [] s
LastFetch dir n (r ∷ rest) s last =
    ((last ≡ []) × StopsAt n (r ∷ rest) s)
    ⊎ ((outcome : FetchOutcome) × (last ≡ module_request (path_of dir r.name) outcome ∷ []) × Unfound (n + 1) outcome s)

-- ---- all
-- the modules of rows are fetched in order, up to the first one that is refused or isn't found
pub record FetchesRows (dir : List ℕ) (rows : List Row) (s : LinkStatus) (old new : Option (List Request)) : Type 0 where
  pub found : List Row
  pub rest : List Row
  pub last : List Request
  pub are : rows ≡ found ++ rest
  pub requests : GrowsBy old new (found_modules dir found ++ last)
  pub ends : LastFetch dir (length found) rest s last

-- of a list with a bad line, no module is fetched
abbrev pub FetchesText : List ℕ → Result (List Row) ℕ → LinkStatus → Option (List Request) → Option (List Request) → Type 0
FetchesText dir (Err n) s old new = GrowsBy old new []
FetchesText dir (Ok rows) s old new = FetchesRows dir rows s old new

-- the list isn't found
pub record MissesList (list : List ℕ) (s : LinkStatus) (old new : Option (List Request)) : Type 0 where
  pub outcome : FetchOutcome
  pub requests : GrowsBy old new (list_request list outcome ∷ [])
  pub unfound : Unfound 0 outcome s

-- the list is found, and then the modules of its rows are fetched
pub record FetchesModules (files : Option Files) (list dir : List ℕ) (s : LinkStatus) (old new : Option (List Request)) : Type 0 where
  pub text : List ℕ
  pub bytes : HasBytes longest_text_file files list text
  pub between : Option (List Request)
  pub first : GrowsBy old between (list_request list outcomes.Found ∷ [])
  pub then_modules : FetchesText dir (rows_of text) s between new

-- the list is fetched once, before any module
abbrev pub FetchesList : Option Files → List ℕ → List ℕ → LinkStatus → Option (List Request) → Option (List Request) → Type 0
FetchesList files list dir s old new = MissesList list s old new ⊎ FetchesModules files list dir s old new

-- without a list in the arguments nothing is fetched
abbrev pub Fetches : Option Files → Option (List ℕ × List ℕ) → LinkStatus → Option (List Request) → Option (List Request) → Type 0
Fetches files (Some (list, dir)) s old new = FetchesList files list dir s old new
Fetches files None s old new = new ≡ old

-- ---- one row
-- the module that line n names is refused after it was found, or memory ran out
abbrev pub IsRefusedModule : ℕ → LinkStatus → Type 0
IsRefusedModule n (status.BadObject line error) = line ≡ n
IsRefusedModule n (status.BadPlace line kind) = line ≡ n
IsRefusedModule n status.NoMemory = Unit {0}
IsRefusedModule n s = ⊥

-- how the fetch of the module at this path, which line n names, ends the call
abbrev pub FileEnds : List ℕ → ℕ → LinkStatus → Option (List Request) → Option (List Request) → Type 0
FileEnds path n s old new =
    (IsRefusedModule n s × GrowsBy old new (module_request path outcomes.Found ∷ []))
    ⊎ ((outcome : FetchOutcome) × Unfound n outcome s × GrowsBy old new (module_request path outcome ∷ []))

-- the same for a row; if memory runs out before, there is no request
abbrev pub RowEnds : List ℕ → ℕ → Row → LinkStatus → Option (List Request) → Option (List Request) → Type 0
RowEnds dir n r s old new = ((s ≡ status.NoMemory) × (new ≡ old)) ⊎ FileEnds (path_of dir r.name) n s old new
