-- What the arguments of windlink ask for, and how a call ends.
use Rattle.std.specs.Prelude.{◌≡◌, ◌⊎◌, ℕ, ◌+◌, ◌<◌, ◌≤◌, List, [], ◌∷◌, ◌++◌, length, Option, Some, None, IfSome, IsSomeAnd, Result, Ok, Err, codes}
use Rattle.wind_base.specs.Limits.{longest_text_file, longest_module_file}
use Rattle.wind_outside.specs.Counts.{Rose}
use Rattle.wind_outside.specs.Files.{Files}
use Rattle.wind_outside.specs.Appending.{Appended, AppendedPrefix}
use Rattle.mem_partition.specs.declared.block.Block.{Block}
use Rattle.elf_read.specs.declared.module.Module.{Module}
use Rattle.elf_read.specs.declared.error.ElfErr.{ElfErr}
use Rattle.elf_read.specs.Contents.{ModuleOf}
use Rattle.elf_read.specs.Rules.{Refused}
use Rattle.module_image.specs.declared.segments.Places.{Places}
use Rattle.module_image.specs.declared.segments.SegmentKind.{SegmentKind}
use Rattle.module_image.specs.Needs.{needs_of}
use Rattle.module_image.specs.Link.{Load}
use Rattle.module_image.specs.Opening.{opening_blocks}
use Rattle.wind_link.specs.declared.status.LinkStatus.{LinkStatus}
use Rattle.wind_link.specs.declared.status.LinkStatus.TheVariants as status
use Rattle.wind_link.specs.declared.linking.LinkErr.{LinkErr}
use Rattle.wind_link.specs.declared.linking.LinkErr.TheVariants as refusal
use Rattle.wind_link.specs.Lists.{Row, rows_of}
use Rattle.wind_link.specs.Placing.{wrong_segment, with_module, taken_by}
use Rattle.wind_link.specs.Linking.{static_image}

-- the program's exit status
abbrev pub exit_number : LinkStatus → ℕ
exit_number status.Done = 0
exit_number status.Usage = 1
exit_number (status.Absent line) = 2
exit_number status.ReadFault = 4
exit_number status.WriteFault = 5
exit_number status.NoMemory = 6
exit_number (status.BadList line) = 7
exit_number (status.TooLong line) = 8
exit_number (status.BadObject line error) = 10
exit_number (status.BadReloc line number error) = 11
exit_number (status.BadPlace line kind) = 12

-- the status for a refused link: lines are counted from 1, and modules from 0
abbrev pub status_of : LinkErr → LinkStatus
status_of (refusal.BadPlace index kind) = status.BadPlace (index + 1) kind
status_of (refusal.BadReloc index number error) = status.BadReloc (index + 1) number error
status_of refusal.NoMemory = status.NoMemory

-- the list and the folder of the modules: the two words after the program's name
abbrev pub to_link : List (List ℕ) → Option (List ℕ × List ℕ)
to_link (program ∷ list ∷ dir ∷ []) = Some (list, dir)
to_link _ = None

-- ---- files
-- counts of a folder's faults before and after a call
pub record Faults : Type 0 where
  pub before : ℕ
  pub after : ℕ

-- the file with this name has these bytes, at most that many
abbrev pub HasBytes : ℕ → Option Files → List ℕ → List ℕ → Type 0
HasBytes most files name bytes = IfSome files (λ held. held name ≡ Some bytes) × (length bytes ≤ most)

-- why the file that line n names, at most so long, can't be had; n is 0 for the list
abbrev pub Unread : ℕ → Option Files → List ℕ → ℕ → Faults → LinkStatus → Type 0
Unread most files name n faults (status.Absent line) = (line ≡ n) × IfSome files (λ held. held name ≡ None)
Unread most files name n faults (status.TooLong line) =
    (line ≡ n) × IfSome files (λ held. IsSomeAnd (held name) (λ bytes. most < length bytes))
Unread most files name n faults status.ReadFault = Rose faults.before faults.after
Unread most files name n faults status.NoMemory = Unit {0}
Unread most files name n faults _ = ⊥

-- the module's file is in the folder
abbrev pub path_of : List ℕ → List ℕ → List ℕ
path_of dir name = dir ++ (codes "/" ++ name)

-- the file with this name holds this module
abbrev pub HasModule : Option Files → List ℕ → Module → Type 0
HasModule files name m = (bytes : List ℕ) × HasBytes longest_module_file files name bytes × ModuleOf bytes m

-- the file with this name has bytes that are refused so
abbrev pub HasRefused : Option Files → List ℕ → ElfErr → Type 0
HasRefused files name error = (bytes : List ℕ) × HasBytes longest_module_file files name bytes × Refused bytes error

-- why the module that line n names can't be had
abbrev pub NoModule : Option Files → List ℕ → ℕ → Faults → LinkStatus → Type 0
NoModule files name n faults (status.BadObject line error) = (line ≡ n) × HasRefused files name error
NoModule files name n faults end = Unread longest_module_file files name n faults end

-- ---- modules
-- the module of a row, placed after these blocks
pub record IsRowLoad (files : Option Files) (dir : List ℕ) (taken : List Block) (r : Row) (l : Load) : Type 0 where
  pub mode : l.mode ≡ r.mode
  pub at : l.at ≡ r.at
  pub body : HasModule files (path_of dir r.name) l.body
  pub placed : wrong_segment taken (needs_of l.body) l.at ≡ None

-- the modules of rows, each placed after those before it
abbrev pub AreRowLoads : Option Files → List ℕ → List Block → List Row → List Load → Type 0
AreRowLoads files dir taken [] [] = Unit {0}
AreRowLoads files dir taken (r ∷ rs) (l ∷ ls) =
    IsRowLoad files dir taken r l × AreRowLoads files dir (with_module taken (needs_of l.body) l.at) rs ls
AreRowLoads files dir taken _ _ = ⊥

-- line n's module is wrongly placed: this is its first such segment
abbrev pub IsMisplaced : Option SegmentKind → ℕ → LinkStatus → Type 0
IsMisplaced wrong n (status.BadPlace line kind) = (line ≡ n) × (wrong ≡ Some kind)
IsMisplaced wrong n status.NoMemory = Unit {0}
IsMisplaced wrong n _ = ⊥

-- why the file at this path, which line n names, gives no module at these places after these blocks
abbrev pub RefusesFile : Option Files → List ℕ → List Block → ℕ → Places → Faults → LinkStatus → Type 0
RefusesFile files path taken n at faults end =
    NoModule files path n faults end
    ⊎ ((m : Module) × HasModule files path m × IsMisplaced (wrong_segment taken (needs_of m) at) n end)

-- why row number n has no placed module after these blocks
abbrev pub RefusesRow : Option Files → List ℕ → List Block → ℕ → Row → Faults → LinkStatus → Type 0
RefusesRow files dir taken n r faults end = RefusesFile files (path_of dir r.name) taken n r.at faults end

-- the first row that has no placed module
pub record FirstRefused (files : Option Files) (dir : List ℕ) (rows : List Row) (faults : Faults) (end : LinkStatus) : Type 0 where
  pub before : List Row
  pub row : Row
  pub after : List Row
  pub loads : List Load
  pub are : rows ≡ before ++ row ∷ after
  pub placed : AreRowLoads files dir opening_blocks before loads
  pub refuses : RefusesRow files dir (taken_by opening_blocks loads) (length before + 1) row faults end

-- the modules of rows can't be had, or memory ran out
abbrev pub NoModules : Option Files → List ℕ → List Row → Faults → LinkStatus → Type 0
NoModules files dir rows faults status.NoMemory = Unit {0}
NoModules files dir rows faults end = FirstRefused files dir rows faults end

-- ---- the output
-- how a call ends that links these modules; `rose` says that the sink's count of faults rose
abbrev pub Links : Option (List ℕ) → Option (List ℕ) → Type 0 → List Load → LinkStatus → Type 0
Links old new rose ls status.Done = (bytes : List ℕ) × (static_image ls ≡ Ok bytes) × Appended old new bytes
Links old new rose ls status.WriteFault = (bytes : List ℕ) × (static_image ls ≡ Ok bytes) × AppendedPrefix old new bytes × rose
Links old new rose ls (status.BadReloc line number error) =
    (index : ℕ) × (line ≡ index + 1) × (static_image ls ≡ Err (refusal.BadReloc index number error)) × (new ≡ old)
Links old new rose ls status.NoMemory = new ≡ old
Links old new rose ls _ = ⊥

-- how a call ends that reads the modules of these rows
abbrev pub LinksRows : Option Files → List ℕ → Faults → Option (List ℕ) → Option (List ℕ) → Type 0 → List Row → LinkStatus → Type 0
LinksRows files dir faults old new rose rows end =
    (NoModules files dir rows faults end × (new ≡ old))
    ⊎ ((ls : List Load) × AreRowLoads files dir opening_blocks rows ls × Links old new rose ls end)

-- the first bad line, or that memory ran out
abbrev pub IsBadList : ℕ → LinkStatus → Type 0
IsBadList n (status.BadList line) = line ≡ n
IsBadList n status.NoMemory = Unit {0}
IsBadList n _ = ⊥

-- how a call ends that reads this list
abbrev pub LinksText : Option Files → List ℕ → Faults → Option (List ℕ) → Option (List ℕ) → Type 0 → Result (List Row) ℕ → LinkStatus → Type 0
LinksText files dir faults old new rose (Err n) end = IsBadList n end × (new ≡ old)
LinksText files dir faults old new rose (Ok rows) end = LinksRows files dir faults old new rose rows end

-- how a call ends that reads the list with this name
abbrev pub LinksList : Option Files → List ℕ → List ℕ → Faults → Option (List ℕ) → Option (List ℕ) → Type 0 → LinkStatus → Type 0
LinksList files list dir faults old new rose end =
    (Unread longest_text_file files list 0 faults end × (new ≡ old))
    ⊎ ((text : List ℕ) × HasBytes longest_text_file files list text
    × LinksText files dir faults old new rose (rows_of text) end)
