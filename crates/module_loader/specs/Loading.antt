-- When a load is refused, where it places a module, and what it leaves.
use Rattle.std.specs.Prelude.{◌≡◌, ℕ, ◌+◌, ◌-◌, nat_le, nat_lt, ◌==◌, if◌then◌else◌, List, [], ◌∷◌, ◌++◌, length, replicate, Option, Some, None, Result, Ok, Err}
use Rattle.wind_base.specs.Limits.{most_modules, greatest_id, most_symbols}
use Rattle.wind_base.specs.Boards.{board_rules}
use Rattle.wind_base.specs.declared.board_kind.Side.{Side}
use Rattle.wind_core.specs.State.{KernState}
use Rattle.symbol_table.specs.declared.symbol.Symbol.{Symbol}
use Rattle.mem_partition.specs.declared.block.PartErr.{PartErr}
use Rattle.mem_partition.specs.Place.{rounded}
use Rattle.mem_partition.specs.State.{PartState}
use Rattle.board_mem.specs.Memory.{with_bytes}
use Rattle.reloc_link.specs.declared.patching.RelocErr.{RelocErr}
use Rattle.elf_read.specs.declared.error.ElfErr.{ElfErr}
use Rattle.elf_read.specs.declared.module.Module.{Module}
use Rattle.elf_read.specs.Rules.{checked}
use Rattle.elf_read.specs.Contents.{module_at}
use Rattle.module_image.specs.declared.segments.Need.{Need}
use Rattle.module_image.specs.declared.segments.Needs.{Needs}
use Rattle.module_image.specs.declared.segments.Places.{Places}
use Rattle.module_image.specs.Needs.{needs_of}
use Rattle.module_image.specs.Exports.{export_count, exports}
use Rattle.module_image.specs.Binding.{unbound}
use Rattle.module_image.specs.Image.{Images, image}
use Rattle.module_loader.specs.declared.module.LoadErr.{LoadErr}
use Rattle.module_loader.specs.declared.module.LoadErr.TheVariants as refusal
use Rattle.module_loader.specs.declared.module.Loaded.{Loaded}
use Rattle.module_loader.specs.declared.module.LoadedModule.{LoadedModule}
use Rattle.module_loader.specs.declared.module.Segment.{Segment}
use Rattle.module_loader.specs.Modules.{LoadedModules}
use Rattle.module_loader.specs.Placing.{places_of, with_needs}

-- ---- the state
-- what a load reads and changes: the kernel, from which it takes an id, the symbols, the live modules with the kind of
-- their board, the partition and RAM
pub record LoaderState : Type 0 where
  pub kern : KernState
  pub symbols : List Symbol
  pub modules : LoadedModules
  pub part : PartState
  pub ram : List ℕ

-- the side of the pool on which its board places segments
abbrev pub side_of : LoaderState → Side
side_of s = (board_rules s.modules.board).segments

-- ---- refusals
-- the first refusal by counts: of the modules now, the next id, and the symbols afterwards
abbrev pub count_by : ℕ → ℕ → ℕ → Option LoadErr
count_by modules next symbols =
    if nat_le most_modules modules then Some refusal.ModulesFull else
    (if nat_lt greatest_id next then Some refusal.IdsSpent else
    (if nat_lt most_symbols symbols then Some refusal.TableFull else None))

unfoldable pub count_refusal : LoaderState → Module → ℕ → Option LoadErr
count_refusal s m mode = count_by (length s.modules.rows) s.kern.next_id (length s.symbols + export_count mode m.symbols)

-- the first refused relocation of the image
abbrev pub reloc_verdict : Places → Option RelocErr → Result Places LoadErr
reloc_verdict at None = Ok at
reloc_verdict at (Some e) = Err (refusal.Reloc e)

-- the first segment that has no place, and then relocation
abbrev pub place_verdict : Module → List Symbol → Result Places PartErr → Result Places LoadErr
place_verdict m tab (Err e) = Err (refusal.Part e)
place_verdict m tab (Ok at) = reloc_verdict at (image m tab at).fault

abbrev pub verdict_by : Option LoadErr → Result Places LoadErr → Result Places LoadErr
verdict_by (Some e) r = Err e
verdict_by None r = r

-- the places of a load of the module, or its first refusal
unfoldable pub verdict : LoaderState → Module → ℕ → Result Places LoadErr
verdict s m mode = verdict_by (count_refusal s m mode) (place_verdict m s.symbols (places_of (side_of s) s.part (needs_of m)))

-- the file is checked first; a refused file refuses the load
abbrev pub file_by : Result Unit ElfErr → Result Places LoadErr → Result Places LoadErr
file_by (Err e) r = Err (refusal.Elf e)
file_by (Ok _) r = r

-- the places of a load of the file, or its first refusal
unfoldable pub file_verdict : LoaderState → List ℕ → ℕ → Result Places LoadErr
file_verdict s file mode = file_by (checked file) (verdict s (module_at file) mode)

-- ---- an accepted load
-- bytes at an address
abbrev pub Piece : Type 0
Piece = ℕ × List ℕ

-- RAM with a piece, and with several, one after the other
unfoldable pub stored : List ℕ → Piece → List ℕ
stored ram p = with_bytes ram p.0 p.1

abbrev pub stored_all : List ℕ → List Piece → List ℕ
stored_all ram [] = ram
stored_all ram (p ∷ ps) = stored_all (stored ram p) ps

-- the size of the block of a segment of n bytes; a segment of size 0 has no block
unfoldable pub block_size : ℕ → ℕ
block_size n = if n == 0 then 0 else rounded n

-- the bytes of a segment, and zeros to the end of its block
unfoldable pub in_block : List ℕ → List ℕ
in_block bytes = bytes ++ replicate (block_size (length bytes) - length bytes) 0

-- the segments of an image, each with its block filled up
abbrev pub in_blocks : Images → Images
in_blocks i = record { text = in_block i.text; «data» = in_block i.«data»; bss = in_block i.bss; fault = i.fault }

abbrev pub pieces_of : Places → Images → List Piece
pieces_of at i = (at.text, in_block i.text) ∷ (at.«data», in_block i.«data») ∷ (at.bss, in_block i.bss) ∷ []

-- the module's record: its name, and where its segments are and how many bytes they have
abbrev pub segment_at : Need → ℕ → Segment
segment_at n at = record { addr = at; size = n.size }

abbrev pub segments_at : Needs → Places → List Segment
segments_at z at = segment_at z.text at.text ∷ segment_at z.«data» at.«data» ∷ segment_at z.bss at.bss ∷ []

abbrev pub record_of : List ℕ → Needs → Places → LoadedModule
record_of name z at = record { name = name; segments = segments_at z at }

-- what an accepted load leaves: the next id taken, its exports after the other symbols, its record after the other
-- modules, its blocks,
-- and in RAM its image, each segment with zeros to the end of its block
unfoldable pub loaded : LoaderState → List ℕ → Module → ℕ → Places → LoaderState
loaded s name m mode at = record {
  kern = record s.kern { next_id = s.kern.next_id + 1 };
  symbols = s.symbols ++ exports m mode at s.kern.next_id;
  modules = record s.modules { rows = s.modules.rows ++ (s.kern.next_id, record_of name (needs_of m) at) ∷ [] };
  part = with_needs (side_of s) s.part (needs_of m);
  ram = stored_all s.ram (pieces_of at (image m s.symbols at));
}

-- what it answers: the module's id, and the undefined names, in symbol order
abbrev pub loaded_answer : LoaderState → Module → Loaded
loaded_answer s m = record { id = s.kern.next_id; undefined = unbound s.symbols m.symbols }

-- ---- a load of a file
-- the load was accepted, and left this state
abbrev pub IsLoaded : Result Places LoadErr → LoaderState → List ℕ → Module → ℕ → LoaderState → Type 0
IsLoaded (Ok at) s name m mode t = t ≡ loaded s name m mode at
IsLoaded (Err e) s name m mode t = ⊥

-- the load is accepted, or a relocation refuses it
abbrev pub ReachesRelocations : Result Places LoadErr → Type 0
ReachesRelocations (Ok at) = Unit {0}
ReachesRelocations (Err (refusal.Reloc e)) = Unit {0}
ReachesRelocations (Err e) = ⊥

-- memory ran out, or the first refusal
abbrev pub IsVerdict : Result Places LoadErr → LoadErr → Type 0
IsVerdict v refusal.NoMemory = Unit {0}
IsVerdict v e = v ≡ Err e
